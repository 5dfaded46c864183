-- Bench readings of three channels, under 01's settings Q and half-cycles of eight samples.
use Rattle.std.specs.Prelude.{◌≡◌, Bool, true, false, List, [], ◌∷◌, ◌++◌, map, ℕ, ◌-◌, ◌*◌, take, replicate, ℤ, pos, negsuc}
use Rattle.reading.specs.declared.Kind.{Kind}
use Rattle.reading.specs.declared.Kind.TheVariants.{Dip, Swell, Interruption}
use Rattle.reading.specs.declared.Event.{Event}
use Rattle.reading.specs.declared.Record.{Record}
use Rattle.reading.specs.Bench.{q, q_loud, repeated, values_of, with_first, loud_dip}
use Rattle.reading.specs.Changes.Signal.{unsettled, steady, changing}
use Rattle.reading.specs.Records.{record_bytes}
use Rattle.three_reading.specs.declared.Three.{Three}
use Rattle.three_reading.specs.Three.{joint_values}
use Rattle.three_reading.specs.JointEvents.{joint_since}
use Rattle.three_reading.specs.JointChanges.{signals}
use Rattle.three_reading.specs.JointRecords.{joint_due, joint_events}
use Rattle.three_reading.specs.ThreeFeed.{joint_records}
use Rattle.three_reading.specs.ThreeEngineer.{Answer, answer, recording_with}
use Rattle.three_reading.specs.ThreeEngineer.Call.{feed, look}
use Rattle.three_reading.specs.ThreeEngineer.Answer.{fed, refused, looked}

-- three recordings of one length, or three histories, triple by triple; and a recording in turn
abbrev pub tripled : {X : Type 0} → List X → List X → List X → List (Three X)
tripled [] ys zs = []
tripled (x ∷ xs) [] zs = []
tripled (x ∷ xs) (y ∷ ys) [] = []
tripled (x ∷ xs) (y ∷ ys) (z ∷ zs) = record { a = x; b = y; c = z } ∷ tripled xs ys zs

abbrev pub in_turn : List (Three ℤ) → List ℤ
in_turn [] = []
in_turn (t ∷ ts) = t.a ∷ (t.b ∷ (t.c ∷ in_turn ts))

-- h half-cycles of x
abbrev pub halves_of : ℕ → ℕ → List ℤ
halves_of h x = repeated (h * 8) x

abbrev pub events_of : List (Three ℤ) → List Event
events_of rec = joint_events q (joint_values q rec)

abbrev pub bytes_of : List (Three ℤ) → List ℕ
bytes_of rec = record_bytes (joint_records q rec)

-- a dip of b, and a swell of c; the block in turn, fed at first with n lent bytes, each of them 7
abbrev pub apart : List (Three ℤ)
apart = tripled (halves_of 8 100) (halves_of 3 100 ++ (halves_of 2 50 ++ halves_of 3 100)) (halves_of 4 100 ++ (halves_of 2 112 ++ halves_of 2 100))

abbrev pub apart_fed : ℕ → Answer
apart_fed n = answer q [] (feed (in_turn apart) (replicate n 7))

-- a change that begins with a and ends when c's own signal is back
abbrev pub change : List (Three ℤ)
change = tripled (halves_of 150 100 ++ halves_of 110 96) (halves_of 260 100) (halves_of 156 100 ++ halves_of 104 104)

-- a falls to 80 and b to 70 after it; between the two both are at 91, at value 5, and so not below D, but not at D + G
abbrev pub handed_on : List (Three ℤ)
handed_on =
    tripled (halves_of 2 100 ++ (halves_of 2 80 ++ (halves_of 2 91 ++ halves_of 4 100))) (halves_of 4 100 ++ (halves_of 2 91 ++ (halves_of 2 70 ++ halves_of 2 100))) (halves_of 10 100)

-- the voltage is lost on a, then b, then c, and comes back on b, then c, then a
abbrev pub outage : List (Three ℤ)
outage =
    tripled (halves_of 2 100 ++ (halves_of 7 4 ++ halves_of 2 100)) (halves_of 3 100 ++ (halves_of 3 2 ++ halves_of 5 100)) (halves_of 4 100 ++ (halves_of 4 3 ++ halves_of 3 100))

-- two half-cycles of the channels at x, y and z
abbrev pub level : ℕ → ℕ → ℕ → List (Three ℤ)
level x y z = tripled (halves_of 2 x) (halves_of 2 y) (halves_of 2 z)

-- the first standing value after it, 0 where none stands
abbrev pub stands : Kind → List (Three ℤ) → ℕ
stands kind rec = joint_since q kind (joint_values q rec)

-- a history, the newest values first: a is at x up to value 105, and then at y; b is at z at value 107; c rises at 108 for good. The joint signal turns false at 107,
-- or at 106 where y is far from x
abbrev pub falls_beside : ℕ → ℕ → ℕ → List (Three ℕ)
falls_beside x y z = tripled (values_of 104 y ++ values_of 105 x) (values_of 102 100 ++ (values_of 1 z ++ values_of 106 100)) (values_of 102 104 ++ values_of 107 100)

-- a history: a falls at value 101, and a little back at 102, for good; so m is 202, and m − N is 102. b is at D, and below it n values before the newest
abbrev pub dips_late : ℕ → List (Three ℕ)
dips_late n =
    tripled (values_of 101 96 ++ (values_of 1 92 ++ values_of 100 100)) (values_of n 90 ++ (values_of 1 89 ++ values_of (201 - n) 90)) (values_of 101 99 ++ values_of 101 100)

-- a is steady at values 100 and 101 only, b from value 103 on
abbrev pub in_turns : List (Three ℤ)
in_turns = tripled (halves_of 101 100 ++ halves_of 4 96) (halves_of 3 80 ++ halves_of 102 100) (halves_of 105 100)

-- eight half-cycles of 25000; the same, and b's dip, values 3 to 5, with the first sample of half-cycle h another; the marks of the records of three recordings
abbrev pub loud : List ℤ
loud = repeated 64 25000

abbrev pub loud_with : ℕ → ℤ → List ℤ
loud_with h x = with_first h x loud

abbrev pub loud_dip_with : ℕ → ℤ → List ℤ
loud_dip_with h x = with_first h x loud_dip

abbrev pub marks_of_three : List ℤ → List ℤ → List ℤ → List Bool
marks_of_three a b c = map (λ (r : Record). r.clipped) (joint_records (q_loud 400000) (tripled a b c))

pub record ThreeBenchReadings : Type 0 where
  -- a dip of one channel and a swell of another, due at one value: all 192 samples are taken, and the records are written over 56 of 61 bytes
  pub apart-fed :
      apart_fed 61
      ≡ fed (record { taken = 192; written = 2; why = 0 })
      (1 ∷ 0 ∷ 0 ∷ 0 ∷ 3 ∷ 0 ∷ 0 ∷ 0 ∷ 0 ∷ 0 ∷ 0 ∷ 0 ∷ 3 ∷ 0 ∷ 0 ∷ 0 ∷ 0 ∷ 0 ∷ 0 ∷ 0 ∷ 32 ∷ 3 ∷ 0 ∷ 0 ∷ 0 ∷ 0 ∷ 0 ∷ 0
      ∷ 2 ∷ 0 ∷ 0 ∷ 0 ∷ 5 ∷ 0 ∷ 0 ∷ 0 ∷ 0 ∷ 0 ∷ 0 ∷ 0 ∷ 1 ∷ 0 ∷ 0 ∷ 0 ∷ 0 ∷ 0 ∷ 0 ∷ 0 ∷ 0 ∷ 7 ∷ 0 ∷ 0 ∷ 0 ∷ 0 ∷ 0 ∷ 0 ∷ replicate 5 7)
  -- with room for one record, and for none: nothing is written, and the last sample taken is the one before value 6
  pub apart-with-one : apart_fed 55 ≡ fed (record { taken = 165; written = 0; why = 1 }) (replicate 55 7)
  pub apart-with-none : apart_fed 0 ≡ fed (record { taken = 165; written = 0; why = 1 }) []
  -- fed in turn a, b, c up to value 5, and then a look: the three newest values; the dip and the swell stand together
  pub apart-looked :
      answer q (recording_with q [] (feed (in_turn (take 48 apart)) [])) look
      ≡ looked (record {
        a = record { count = 5; value = 1600; sum = 0 };
        b = record { count = 5; value = 1264; sum = 0 };
        c = record { count = 5; value = 1792; sum = 0 };
        phase = 0;
        dip = true;
        swell = true;
        interruption = false;
      })
  -- two samples are refused with 14, and nothing changes; so are four, the whole triple with them; of none, all are taken
  pub two-refused : answer q apart (feed (pos 1 ∷ pos 2 ∷ []) (7 ∷ 7 ∷ [])) ≡ refused 14 (7 ∷ 7 ∷ [])
  pub two-not-taken : recording_with q apart (feed (pos 1 ∷ pos 2 ∷ []) (replicate 56 7)) ≡ apart
  pub four-refused : answer q apart (feed (pos 1 ∷ pos 2 ∷ pos 3 ∷ pos 4 ∷ []) (7 ∷ 7 ∷ [])) ≡ refused 14 (7 ∷ 7 ∷ [])
  pub four-not-taken : recording_with q apart (feed (pos 1 ∷ pos 2 ∷ pos 3 ∷ pos 4 ∷ []) (replicate 56 7)) ≡ apart
  pub none-fed : answer q apart (feed [] (7 ∷ [])) ≡ fed (record { taken = 0; written = 0; why = 0 }) (7 ∷ [])
  -- a dip that goes from channel to channel is one dip, with the least value of all
  pub one-dip : bytes_of handed_on ≡ 1 ∷ 0 ∷ 0 ∷ 0 ∷ 3 ∷ 0 ∷ 0 ∷ 0 ∷ 0 ∷ 0 ∷ 0 ∷ 0 ∷ 6 ∷ 0 ∷ 0 ∷ 0 ∷ 0 ∷ 0 ∷ 0 ∷ 0 ∷ 96 ∷ 4 ∷ 0 ∷ 0 ∷ 0 ∷ 0 ∷ 0 ∷ 0 ∷ []
  -- an interruption begins with the last channel that is lost and ends with the first that is back, in a dip that begins with the first and ends with the last
  pub interruption-in-dip :
      bytes_of outage
      ≡ 3 ∷ 0 ∷ 0 ∷ 0 ∷ 5 ∷ 0 ∷ 0 ∷ 0 ∷ 0 ∷ 0 ∷ 0 ∷ 0 ∷ 1 ∷ 0 ∷ 0 ∷ 0 ∷ 0 ∷ 0 ∷ 0 ∷ 0 ∷ 32 ∷ 0 ∷ 0 ∷ 0 ∷ 0 ∷ 0 ∷ 0 ∷ 0
      ∷ 1 ∷ 0 ∷ 0 ∷ 0 ∷ 2 ∷ 0 ∷ 0 ∷ 0 ∷ 0 ∷ 0 ∷ 0 ∷ 0 ∷ 8 ∷ 0 ∷ 0 ∷ 0 ∷ 0 ∷ 0 ∷ 0 ∷ 0 ∷ 32 ∷ 0 ∷ 0 ∷ 0 ∷ 0 ∷ 0 ∷ 0 ∷ 0 ∷ []
  -- one channel at D exactly begins no dip, below it does; then one at D + G exactly, the others above, lets it end, below it does not
  pub dip-levels :
      stands Dip (level 100 90 100) ∷ stands Dip (level 100 89 100) ∷ stands Dip (level 100 89 100 ++ level 100 92 100) ∷ stands Dip (level 100 89 100 ++ level 100 91 100) ∷ []
      ≡ 0 ∷ 1 ∷ 0 ∷ 1 ∷ []
  -- so with W and W − G
  pub swell-levels :
      stands Swell (level 100 110 100) ∷ stands Swell (level 100 111 100)
      ∷ stands Swell (level 100 111 100 ++ level 100 108 100) ∷ stands Swell (level 100 111 100 ++ level 100 109 100) ∷ []
      ≡ 0 ∷ 1 ∷ 0 ∷ 1 ∷ []
  -- one channel at I exactly, the others below, begins no interruption, all below do; then one at I + G exactly ends it, below it does not
  pub interruption-levels :
      stands Interruption (level 4 5 4) ∷ stands Interruption (level 4 4 4)
      ∷ stands Interruption (level 4 4 4 ++ level 4 4 7) ∷ stands Interruption (level 4 4 4 ++ level 4 4 6) ∷ []
      ≡ 0 ∷ 1 ∷ 0 ∷ 1 ∷ []
  -- a change from a's turn at 151 to value 258, where c is steady again; the worst channel's is c's, a's are 6368
  pub change-due : events_of change ≡ record { kind = 4; start = 151; duration = 7; first = 6400; second = 6400 } ∷ []
  -- a's dip ended at value 106, which is k − 1: b's change is kept. Its magnitudes are b's and c's. So with a swell
  pub change-kept :
      joint_events q (falls_beside 89 92 95)
      ≡ record { kind = 1; start = 1; duration = 105; first = 1424; second = 0 } ∷ record { kind = 4; start = 107; duration = 2; first = 8000; second = 6400 } ∷ []
  pub change-kept-after-swell :
      joint_events q (falls_beside 111 108 95)
      ≡ record { kind = 2; start = 1; duration = 105; first = 1776; second = 0 } ∷ record { kind = 4; start = 107; duration = 2; first = 8000; second = 6400 } ∷ []
  -- where b falls below D, this is another dip, and the change is dropped
  pub change-dropped :
      joint_events q (falls_beside 89 92 89)
      ≡ record { kind = 1; start = 1; duration = 105; first = 1424; second = 0 } ∷ record { kind = 1; start = 107; duration = 1; first = 1424; second = 0 } ∷ []
  -- a's dip, or its swell, ends at k, which is 106: the change is dropped
  pub change-out-of-dip : joint_events q (falls_beside 89 100 100) ≡ record { kind = 1; start = 1; duration = 105; first = 1424; second = 0 } ∷ []
  pub change-out-of-swell : joint_events q (falls_beside 111 100 100) ≡ record { kind = 2; start = 1; duration = 105; first = 1776; second = 0 } ∷ []
  -- a's dip, or its swell, stands at k − 1 and goes on: b's change is dropped
  pub change-in-dip : joint_events q (falls_beside 89 91 95) ≡ []
  pub change-in-swell : joint_events q (falls_beside 111 109 95) ≡ []
  -- where b falls below D, it is in that dip, too, which goes on: there is no other
  pub change-in-dip-of-two : joint_events q (falls_beside 89 91 89) ≡ []
  -- the dip first stands at value 103, after m − N: it drops nothing. Both magnitudes are a's
  pub change-before-dip : joint_due q (dips_late 99) ≡ record { kind = 4; start = 101; duration = 1; first = 12800; second = 6400 } ∷ []
  -- at value 102, which is m − N, it drops the change
  pub change-until-dip : joint_due q (dips_late 100) ≡ []
  -- each own signal was true, but never all at once: the joint one was never true
  pub never-together :
      signals q (joint_values q in_turns) ≡ record { own = record { a = changing 102; b = steady; c = steady }; joint = unsettled }
  -- c clipped in the last value of b's dip marks it, clipped at the ending value only does not; −32768 is clipped, −32767 is not
  pub dip-marks :
      marks_of_three loud loud_dip (loud_with 6 (pos 32767)) ∷ marks_of_three loud loud_dip (loud_with 7 (pos 32767))
      ∷ marks_of_three loud loud_dip (loud_with 6 (negsuc 32767)) ∷ marks_of_three loud loud_dip (loud_with 6 (negsuc 32766)) ∷ []
      ≡ (true ∷ []) ∷ (false ∷ []) ∷ (true ∷ []) ∷ (false ∷ []) ∷ []
  -- so does a, and so does b
  pub dip-marks-others :
      marks_of_three (loud_with 6 (pos 32767)) loud_dip loud ∷ marks_of_three loud (loud_dip_with 6 (pos 32767)) loud ∷ marks_of_three loud loud_dip loud ∷ []
      ≡ (true ∷ []) ∷ (true ∷ []) ∷ (false ∷ []) ∷ []
