-- 01, "The engineer" of demand 3, with 02's trial: what is kept of a list of calls, and each call's answer, read from the recording and the settings only.
use Rattle.std.specs.Prelude.{◌≢◌, Bool, List, [], ◌∷◌, ◌++◌, ℕ, suc, ◌/◌, ◌<◌, length, take, drop, get_or, ℤ, if◌then◌else◌}
use Rattle.octets.specs.Bytes.{Bytes}
use Rattle.settings.specs.declared.Settings.{Settings}
use Rattle.numbers.specs.Notation.{◌<ᵇ◌}
use Rattle.settings.specs.Settings.{window_length_of}
use Rattle.reading.specs.declared.Kind.TheVariants.{Dip, Swell, Interruption}
use Rattle.reading.specs.Told.{Told}
use Rattle.reading.specs.Readings.{Readings}
use Rattle.reading.specs.Values.{Samples, values}
use Rattle.reading.specs.Thresholds.{stands_since}
use Rattle.reading.specs.Changes.{window_sum, signal}
use Rattle.reading.specs.Layout.{record_length, image_length}
use Rattle.reading.specs.Records.{record_bytes}
use Rattle.reading.specs.Image.{phase_number, image_of}
use Rattle.reading.specs.Restore.{restore_refusal}
use Rattle.reading.specs.Feed.{completed, taken, why}
use Rattle.reading.specs.Calls.{Trial, trial_to}

-- the calls, each with the bytes that are lent to it: feed with a block and a record buffer, trial with a block and a scratch buffer, save with an
-- image buffer, restore with the bytes of a save, named by its number from 0 among the accepted ones, or with bytes that are refused
pub data Call : Type 0 where
  feed : List ℤ → List ℕ → Call
  trial : List ℤ → List ℕ → Call
  look : Call
  save : List ℕ → Call
  restore_save : ℕ → Call
  restore_refused : List ℕ → Call

-- the answers, each with the lent bytes as the call leaves them: of feed and of a trial what it tells; of save and restore 0, or the refusal
pub data Answer : Type 0 where
  fed : Told → List ℕ → Answer
  tried : Told → List ℕ → Answer
  looked : Readings → Answer
  saved : ℕ → List ℕ → Answer
  restored : ℕ → Answer

-- "Look": V, r(V) or 0, A(V) or 0 if V < N, phase, which of the three stand
abbrev pub readings : Settings → List ℕ → Readings
readings s hist = record {
  count = length hist;
  value = get_or hist 0 0;
  sum = if length hist <ᵇ window_length_of s then 0 else window_sum s hist;
  phase = phase_number (signal s hist);
  dip = 0 <ᵇ stands_since s Dip hist;
  swell = 0 <ᵇ stands_since s Swell hist;
  interruption = 0 <ᵇ stands_since s Interruption hist;
}

-- bytes written at the front of a lent buffer, its further bytes unchanged
abbrev pub over : List ℕ → List ℕ → List ℕ
over bytes lent = bytes ++ drop (length bytes) lent

-- what the engineer keeps: the recording, and a copy of it for each accepted save, the latest last
pub record Desk : Type 0 where
  pub recording : List ℤ
  pub copies : List (List ℤ)

-- at first: no sample, and no save
abbrev pub empty_desk : Desk
empty_desk = record { recording = []; copies = [] }

-- a buffer that is shorter than an image: save's refusal 7
abbrev pub too_short : List ℕ → Bool
too_short lent = length lent <ᵇ image_length

-- room is the whole number of records that fit the lent bytes
abbrev pub room : List ℕ → ℕ
room lent = length lent / record_length

-- what is told of a block that is fed after a recording, with lent bytes as its record space, and those bytes then
abbrev pub fed_after : Settings → List ℤ → List ℤ → List ℕ → Trial
fed_after s rec block lent =
    let n = taken s rec block (room lent) in
    let written = completed s rec block n in
    trial_to (record { taken = n; written = length written; why = why s rec block n }) (over (record_bytes written) lent)

-- the answer to a call. A trial tells what feed would, with the scratch buffer as its record space; a restore that names a save is accepted
abbrev pub answer : Settings → Desk → Call → Answer
answer s d (feed block lent) = let r = fed_after s d.recording block lent in fed r.told r.bytes
answer s d (trial block lent) = let r = fed_after s d.recording block lent in tried r.told r.bytes
answer s d look = looked (readings s (values s d.recording))
answer s d (save lent) = if too_short lent then saved 7 lent else saved 0 (over (image_of s d.recording) lent)
answer s d (restore_save j) = restored 0
answer s d (restore_refused bytes) = restored (restore_refusal bytes)

-- what is kept after it: a restore that names a save sets the recording back; a trial and a refused call change nothing
abbrev pub desk_with : Settings → Desk → Call → Desk
desk_with s d (feed block lent) = record { recording = d.recording ++ take (taken s d.recording block (room lent)) block; copies = d.copies }
desk_with s d (trial block lent) = d
desk_with s d look = d
desk_with s d (save lent) = if too_short lent then d else record { recording = d.recording; copies = d.copies ++ (d.recording ∷ []) }
desk_with s d (restore_save j) = record { recording = get_or d.copies j []; copies = d.copies }
desk_with s d (restore_refused bytes) = d

-- the answers to a list of calls
abbrev pub answers : Settings → Desk → List Call → List Answer
answers s d [] = []
answers s d (c ∷ cs) = answer s d c ∷ answers s (desk_with s d c) cs

-- what is kept after a list of calls
abbrev pub desk_after : Settings → Desk → List Call → Desk
desk_after s d [] = d
desk_after s d (c ∷ cs) = desk_after s (desk_with s d c) cs

-- the lists that demand 3 speaks of, after n accepted saves: blocks are of samples and buffers of bytes, and each restore names an earlier
-- accepted save or is given bytes that are refused
abbrev pub WellFormed : ℕ → List Call → Type 0
WellFormed n [] = Unit {0}
WellFormed n (feed block lent ∷ cs) = Samples block × Bytes lent × WellFormed n cs
WellFormed n (trial block lent ∷ cs) = Samples block × Bytes lent × WellFormed n cs
WellFormed n (look ∷ cs) = WellFormed n cs
WellFormed n (save lent ∷ cs) = Bytes lent × WellFormed (if too_short lent then n else suc n) cs
WellFormed n (restore_save j ∷ cs) = (j < n) × WellFormed n cs
WellFormed n (restore_refused bytes ∷ cs) = Bytes bytes × (restore_refusal bytes ≢ 0) × WellFormed n cs
