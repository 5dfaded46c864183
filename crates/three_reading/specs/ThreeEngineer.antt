-- 02, N2, the list of calls of a three-phase logger: each call's answer, read from the three recordings and the settings only.
use Rattle.std.specs.Prelude.{List, [], ◌∷◌, ◌++◌, ℕ, zero, suc, ◌*◌, ◌%◌, length, take, get_or, ℤ, if◌then◌else◌}
use Rattle.octets.specs.Bytes.{Bytes}
use Rattle.settings.specs.declared.Settings.{Settings}
use Rattle.settings.specs.Settings.{window_length_of}
use Rattle.numbers.specs.Notation.{◌<ᵇ◌, ◌≡ᵇ◌}
use Rattle.reading.specs.declared.Kind.TheVariants.{Dip, Swell, Interruption}
use Rattle.reading.specs.Told.{Told}
use Rattle.reading.specs.Values.{Samples}
use Rattle.reading.specs.Changes.{window_sum}
use Rattle.reading.specs.Records.{record_bytes}
use Rattle.reading.specs.Image.{phase_number}
use Rattle.reading.specs.Engineer.{over, room}
use Rattle.three_reading.specs.declared.ChannelReadings.{ChannelReadings}
use Rattle.three_reading.specs.ThreeReadings.{ThreeReadings}
use Rattle.three_reading.specs.declared.Three.{Three}
use Rattle.three_reading.specs.Three.{triples_of, channel, joint_values}
use Rattle.three_reading.specs.Three.Channel.{on_a, on_b, on_c}
use Rattle.three_reading.specs.JointEvents.{joint_since}
use Rattle.three_reading.specs.JointChanges.{signals}
use Rattle.three_reading.specs.ThreeFeed.{joint_completed, joint_taken, joint_why}

-- the calls, each with the bytes that are lent to it
pub data Call : Type 0 where
  feed : List ℤ → List ℕ → Call
  look : Call

-- the answers, with the lent bytes as the call leaves them: of feed what it tells, or the refusal
pub data Answer : Type 0 where
  fed : Told → List ℕ → Answer
  refused : ℕ → List ℕ → Answer
  looked : ThreeReadings → Answer

-- feed's refusal of a block: 14 if it is not a multiple of three samples, 0 where it is
abbrev pub feed_refusal : List ℤ → ℕ
feed_refusal block = if length block % 3 ≡ᵇ 0 then 0 else 14

-- "Look": of each channel V, r(V) or 0, A(V) or 0 if V < N; the joint phase, which of the three events stand
abbrev pub channel_readings : Settings → List ℕ → ChannelReadings
channel_readings s hist = record { count = length hist; value = get_or hist 0 0; sum = if length hist <ᵇ window_length_of s then 0 else window_sum s hist }

abbrev pub joint_readings : Settings → List (Three ℕ) → ThreeReadings
joint_readings s hist = record {
  a = channel_readings s (channel on_a hist);
  b = channel_readings s (channel on_b hist);
  c = channel_readings s (channel on_c hist);
  phase = phase_number (signals s hist).joint;
  dip = 0 <ᵇ joint_since s Dip hist;
  swell = 0 <ᵇ joint_since s Swell hist;
  interruption = 0 <ᵇ joint_since s Interruption hist;
}

-- the triples that a feed takes; a refused one takes none
abbrev pub taken_by : ℕ → Settings → List (Three ℤ) → List (Three ℤ) → ℕ → List (Three ℤ)
taken_by zero s rec block room = take (joint_taken s rec block room) block
taken_by (suc r) s rec block room = []

-- feed's answer, by its refusal: taken is told in samples
abbrev pub fed_answer : ℕ → Settings → List (Three ℤ) → List (Three ℤ) → List ℕ → Answer
fed_answer zero s rec block lent =
    let n = joint_taken s rec block (room lent) in
    let written = joint_completed s rec block n in
    fed (record { taken = 3 * n; written = length written; why = joint_why s rec block n }) (over (record_bytes written) lent)
fed_answer (suc r) s rec block lent = refused (suc r) lent

-- the answer to a call
abbrev pub answer : Settings → List (Three ℤ) → Call → Answer
answer s rec (feed block lent) = fed_answer (feed_refusal block) s rec (triples_of block) lent
answer s rec look = looked (joint_readings s (joint_values s rec))

-- the recordings after it
abbrev pub recording_with : Settings → List (Three ℤ) → Call → List (Three ℤ)
recording_with s rec (feed block lent) = rec ++ taken_by (feed_refusal block) s rec (triples_of block) (room lent)
recording_with s rec look = rec

-- the answers to a list of calls, and the recordings after it
abbrev pub answers : Settings → List (Three ℤ) → List Call → List Answer
answers s rec [] = []
answers s rec (c ∷ cs) = answer s rec c ∷ answers s (recording_with s rec c) cs

abbrev pub recording_after : Settings → List (Three ℤ) → List Call → List (Three ℤ)
recording_after s rec [] = rec
recording_after s rec (c ∷ cs) = recording_after s (recording_with s rec c) cs

-- the lists that are spoken of: blocks are of samples and buffers of bytes
abbrev pub WellFormed : List Call → Type 0
WellFormed [] = Unit {0}
WellFormed (feed block lent ∷ cs) = Samples block × Bytes lent × WellFormed cs
WellFormed (look ∷ cs) = WellFormed cs
