-- What one record and what a list of records comes to.
use Rattle.std.specs.Prelude.{List, ℕ}
use Rattle.numbers.specs.Notation.{flag, all, refuse◌unless◌then◌}
use Rattle.numbers.specs.Answers.{Answered, answered}
use Rattle.settings.specs.declared.Settings.{Settings}
use Rattle.reading.specs.declared.Event.{Event}
use Rattle.day_count.specs.declared.Tally.{Tally}
use Rattle.day_count.specs.Days.{how_many, second_counts, first_counts, known_kind, kinds}

abbrev pub tally_of : Settings → ℕ → ℕ → Event → Tally
tally_of s z day e = record { second = flag (second_counts s z day e); first = flag (first_counts s z day e) }

abbrev pub tallied : Settings → ℕ → ℕ → List Event → Tally
tallied s z day es = record { second = how_many (second_counts s z day) es; first = how_many (first_counts s z day) es }

-- where all kinds are 1 to 4
abbrev pub tally_answer : Settings → ℕ → ℕ → List Event → Answered Tally
tally_answer s z day es = answered (refuse 17 unless all known_kind (kinds es) then 0) (tallied s z day es)
