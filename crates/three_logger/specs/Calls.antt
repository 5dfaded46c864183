-- The three-phase logger's calls. The contract of each function of `ThreeLogger` is an equation with its field here, and the claim is of these fields.
use Rattle.numbers.specs.Answers.{Answered}
use Rattle.numbers.specs.Answers.Answered.{accepted, refused}
use Rattle.settings.specs.declared.Settings.{Settings}
use Rattle.settings.specs.Settings.{settings_read}
use Rattle.three_reading.specs.ThreeCalls.{ThreeCalls}
use Rattle.three_state.specs.declared.ThreeState.{ThreeState}
use Rattle.three_state.specs.ThreeState.{three_fresh, three_readings_of}
use Rattle.three_logger.specs.Logger.{three_fed}

-- start: the fresh logger of settings that were read, or their refusal
abbrev pub three_started_from : Answered Settings → Answered ThreeState
three_started_from (accepted s) = accepted (three_fresh s)
three_started_from (refused n) = refused n

abbrev pub three_calls : ThreeCalls ThreeState
three_calls = record { start = λ b. three_started_from (settings_read b); feed = three_fed; look = three_readings_of }
