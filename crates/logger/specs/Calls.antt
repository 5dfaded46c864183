-- The logger's calls. The contract of each function of `Logger` is an equation with its field here, and demand 3 is claimed of these fields.
use Rattle.std.specs.Prelude.{Result, Ok, Err}
use Rattle.numbers.specs.Answers.{Answered}
use Rattle.numbers.specs.Answers.Answered.{accepted, refused}
use Rattle.settings.specs.declared.Settings.{Settings}
use Rattle.settings.specs.Settings.{settings_read}
use Rattle.numbers.specs.declared.Refusal.{Refusal}
use Rattle.numbers.specs.Refusals.{number_of}
use Rattle.reading.specs.Calls.{Restoration, Calls, without_logger}
use Rattle.state.specs.declared.State.{State}
use Rattle.state.specs.State.{fresh, readings_of}
use Rattle.state.specs.Calls.{fed_with}
use Rattle.image.specs.Image.{save_answer, saved_bytes, restored_by}
use Rattle.logger.specs.declared.Logger.{Logger}
use Rattle.logger.specs.Logger.{saved_to}

-- start: the fresh logger of settings that were read, or their refusal
abbrev pub started_from : Answered Settings → Answered State
started_from (accepted s) = accepted (fresh s)
started_from (refused n) = refused n

abbrev pub logger_calls : Calls State
logger_calls = record {
  start = λ b. started_from (settings_read b);
  feed = fed_with;
  trial = λ st block lent. without_logger (fed_with st block lent);
  look = readings_of;
  save = λ st lent. saved_to (save_answer lent) (saved_bytes st lent);
  restore = restored_by;
}

-- resume, as an image restored into a spare logger, fresh with the least settings that start accepts
abbrev pub spare_settings : Settings
spare_settings = record {
  samples = 8;
  frequency = 50;
  declared = 16;
  limit = 50;
  reduction = 0;
  interruption = 1;
  dip = 1;
  swell = 2;
  hysteresis = 0;
}

abbrev pub resumed_to : Result Logger Refusal → Restoration State
resumed_to (Ok l) = record { after = l.state; answer = accepted tt }
resumed_to (Err r) = record { after = fresh spare_settings; answer = refused (number_of r) }
