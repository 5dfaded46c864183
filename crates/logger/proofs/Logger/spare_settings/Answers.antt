-- Each rule of the settings, at these numbers.
use mathlib.Core.Path.{refl}
use mathlib.Core.Logic.◌⊎◌.{inl}
use borrow.Author.Rules.{rules}
use Rattle.logger.proofs.Logger.spare_settings.Goals as goal

pub returns : goal.returns
returns c = (
  refl,
  record {
    samples-valid = search rules;
    frequency-valid = inl refl;
    declared-valid = search rules;
    limit-valid = search rules;
    levels-valid = search rules;
    order-valid = search rules;
  },
)
