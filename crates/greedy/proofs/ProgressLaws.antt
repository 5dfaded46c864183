-- A feed in progress: what is fed so far of a block, and what is left of it and of the lent buffer. Half-cycles and chunks join it alike, each with its records
-- behind those written before.
use Rattle.std.specs.Prelude.{◌≡◌, refl, Bool, false, List, [], ◌++◌, ℕ, ◌+◌, ◌-◌, ◌*◌, ◌≤◌, ◌<◌, length, take, drop, if◌then◌else◌}
use Rattle.std.proofs.Common.{sym, ◌∙◌, ap, subst, append-nil, arith, length-append, length-drop, take-append-drop, drop-drop, take_all, length-take-le, ne_eqb}
use Rattle.std.proofs.Math.Seq.{drop-length}
use borrow.Rule.Slice.PartMut.{put_mid, Post-is}
use Rattle.numbers.specs.Notation.{◌≡ᵇ◌}
use Rattle.reading.specs.declared.Record.{Record}
use Rattle.reading.specs.Told.{Told}
use Rattle.reading.specs.Records.{record_bytes}
use Rattle.reading.specs.Calls.{Outcome}
use Rattle.reading.specs.Engineer.{over, room}
use Rattle.reading.specs.Layout.{record_length}
use Rattle.records.specs.DueLaws.{placed-records}
use Rattle.greedy.specs.Greedy.{Machine, Run, joined, fed_by, outcome_of, fed_into}
use Rattle.greedy.proofs.GreedyLaws.{Bounded, and_then, joined-joined, fed_by-append, fed_by-bounded}

-- a part of a block; what is behind place k, lent and back
pub part-long : {A : Type 0} (at n : ℕ) (block : List A) → at + n ≤ length block → length (take n (drop at block)) ≡ n
part-long at n block h = length-take-le n (drop at block) (omega (arith, length-drop at block))

pub lent-behind : {A : Type 0} (k : ℕ) (out : List A) → take (length out - k) (drop k out) ≡ drop k out
lent-behind k out = take_all (length out - k) (drop k out) (omega (arith, length-drop k out))

pub back-behind : (k : ℕ) (out part : List ℕ) → k ≤ length out → put_mid k (length out - k) out part ≡ take k out ++ part
back-behind k out part h =
    let none : drop (length out - k) (drop k out) ≡ [] = Post-is k (length out) out h ∙ drop-length out in
    ap (λ (r : List ℕ). take k out ++ (part ++ r)) none ∙ ap (λ (r : List ℕ). take k out ++ r) (append-nil part)

module _ {X St : Type 0} (M : Machine X St) (Valid : St → Type 0) (st₀ : St) (block : List X) (lent : List ℕ) where
  pub record Progress (st : St) (at written : ℕ) (out : List ℕ) : Type 0 where
    pub records : List Record
    pub valid : Valid st
    pub at_in : at ≤ length block
    pub fits : written ≤ room lent
    pub fed : fed_by M st₀ block (room lent) ≡ joined at records (fed_by M st (drop at block) (room lent - written))
    pub count : written ≡ length records
    pub bytes : out ≡ over (record_bytes records) lent

pub progress-none : {X St : Type 0} (M : Machine X St) {Valid : St → Type 0} (st : St) (block : List X) (lent : List ℕ) → Valid st →
    Progress M Valid st block lent st 0 0 lent
progress-none {St = St} M st block lent ok =
    let c : (k : ℕ) → k ≡ 0 + k = λ k. omega arith in
    let r : room lent ≡ room lent - 0 = omega arith in
    let f : Run St = fed_by M st block (room lent - 0) in
    record {
      records = [];
      valid = ok;
      at_in = omega arith;
      fits = omega arith;
      fed = ap (fed_by M st block) r ∙ (λ i. record { after = f.after; taken = c f.taken i; records = f.records; why = f.why });
      count = refl;
      bytes = refl;
    }

module _ {X St : Type 0} {M : Machine X St} {Valid : St → Type 0} {st₀ : St} {block : List X} {lent : List ℕ} {st : St} {at written : ℕ} {out : List ℕ}
    (so_far : Progress M Valid st₀ block lent st at written out) where
  -- n samples more, with the records es, and then the rest
  pub progress-more : (n : ℕ) (es : List Record) (st₁ : St) (out₁ : List ℕ) → at + n ≤ length block → length es ≤ room lent - written → Valid st₁ →
      fed_by M st (drop at block) (room lent - written) ≡ joined n es (fed_by M st₁ (drop n (drop at block)) (room lent - written - length es)) →
      out₁ ≡ take (record_length * written) out ++ over (record_bytes es) (drop (record_length * written) out) → Progress M Valid st₀ block lent st₁ (at + n) (written + length es) out₁
  progress-more n es st₁ out₁ inside few ok step bytes-are =
      let c : written ≡ length so_far.records = so_far.count in
      let f : written ≤ room lent = so_far.fits in
      let later : room lent - written - length es ≡ room lent - (written + length es) = omega arith in
      record {
        records = so_far.records ++ es;
        valid = ok;
        at_in = inside;
        fits = omega arith;
        fed =
            so_far.fed
            ∙ ap (joined at so_far.records) step
            ∙ joined-joined M at n so_far.records es (fed_by M st₁ (drop n (drop at block)) (room lent - written - length es))
            ∙ (λ i. joined (at + n) (so_far.records ++ es) (fed_by M st₁ (drop-drop n at block i) (later i)));
        count = omega (arith, length-append so_far.records es);
        bytes = bytes-are ∙ placed-records (record_length * written) so_far.records es lent out (omega arith) so_far.bytes;
      }

  -- where it ends: what the rest gives is all
  pub progress-last : (r : Run St) (out₁ : List ℕ) → fed_by M st (drop at block) (room lent - written) ≡ r →
      out₁ ≡ take (record_length * written) out ++ over (record_bytes r.records) (drop (record_length * written) out) →
      record { after = r.after; told = record { taken = at + r.taken; written = written + length r.records; why = r.why }; bytes = out₁ } ≡ fed_into M st₀ block lent
  progress-last r out₁ last bytes-are =
      let c : written ≡ length so_far.records = so_far.count in
      let n : written + length r.records ≡ length (so_far.records ++ r.records) = omega (arith, length-append so_far.records r.records) in
      let b : out₁ ≡ over (record_bytes (so_far.records ++ r.records)) lent =
      bytes-are ∙ placed-records (record_length * written) so_far.records r.records lent out (omega arith) so_far.bytes in
      (λ i. record { after = r.after; told = record { taken = at + r.taken; written = n i; why = r.why }; bytes = b i })
      ∙ sym (ap (outcome_of lent) (so_far.fed ∙ ap (joined at so_far.records) last))

  -- a chunk of the block, fed with the buffer behind the records written so far
  module _ (n : ℕ) (inside : at + n ≤ length block) (long : length out ≡ length lent) {end : St} {told : Told} {part : List ℕ} (ok : Valid end)
      (is : record { after = end; told = told; bytes = part } ≡ fed_into M st (take n (drop at block)) (drop (record_length * written) out)) where
    abbrev left : ℕ
    left = room lent - written

    abbrev chunk : List X
    chunk = take n (drop at block)

    abbrev run : Run St
    run = fed_by M st chunk left

    bounded : Bounded chunk left run
    bounded = fed_by-bounded M chunk st left

    chunk-long : length chunk ≡ n
    chunk-long = part-long at n block inside

    run_is : record { after = end; told = told; bytes = part } ≡ outcome_of (drop (record_length * written) out) run
    run_is =
        let room-is : room (drop (record_length * written) out) ≡ left = omega (arith, length-drop (record_length * written) out, so_far.fits) in
        is ∙ ap (λ (k : ℕ). outcome_of (drop (record_length * written) out) (fed_by M st chunk k)) room-is

    told_is : told ≡ record { taken = run.taken; written = length run.records; why = run.why }
    told_is = ap (λ (o : Outcome St). o.told) run_is

    bytes-are : (out₁ : List ℕ) → out₁ ≡ take (record_length * written) out ++ part → out₁ ≡ take (record_length * written) out ++ over (record_bytes run.records) (drop (record_length * written) out)
    bytes-are out₁ e = e ∙ ap (λ (o : Outcome St). take (record_length * written) out ++ o.bytes) run_is

    both : fed_by M st (drop at block) left ≡ and_then M run (drop n (drop at block)) left
    both = ap (λ (b : List X). fed_by M st b left) (sym (take-append-drop n (drop at block))) ∙ fed_by-append M chunk st (drop n (drop at block)) left

    -- what the code adds up stays in the block and in the room
    pub chunk-taken : told.taken ≤ n
    chunk-taken = omega (arith, ap (λ (t : Told). t.taken) told_is, bounded.most, chunk-long)

    pub chunk-fits : written + told.written ≤ room lent
    chunk-fits = omega (arith, ap (λ (t : Told). t.written) told_is, bounded.fits, so_far.fits)

    -- it is taken whole
    pub chunk-more : told.why ≡ 0 → (out₁ : List ℕ) → out₁ ≡ take (record_length * written) out ++ part → Progress M Valid st₀ block lent end (at + n) (written + told.written) out₁
    chunk-more none out₁ e =
        let whole : run.why ≡ 0 = sym (ap (λ (t : Told). t.why) told_is) ∙ none in
        let count : run.taken ≡ n = bounded.whole whole ∙ chunk-long in
        let rest : List X = drop n (drop at block) in
        let after_is : run.after ≡ end = sym (ap (λ (o : Outcome St). o.after) run_is) in
        let step : fed_by M st (drop at block) left ≡ joined n run.records (fed_by M end rest (left - length run.records)) =
        both
        ∙ ap (λ (y : ℕ). if y ≡ᵇ 0 then joined run.taken run.records (fed_by M run.after rest (left - length run.records)) else run) whole
        ∙ (λ i. joined (count i) run.records (fed_by M (after_is i) rest (left - length run.records))) in
        subst (λ (k : ℕ). Progress M Valid st₀ block lent end (at + n) (written + k) out₁) (sym (ap (λ (t : Told). t.written) told_is))
        (progress-more n run.records end out₁ inside bounded.fits ok step (bytes-are out₁ e))

    -- it is not, and so is the end
    pub chunk-last : 0 < told.why → (out₁ : List ℕ) → out₁ ≡ take (record_length * written) out ++ part →
        record { after = end; told = record { taken = at + told.taken; written = written + told.written; why = told.why }; bytes = out₁ } ≡ fed_into M st₀ block lent
    chunk-last some out₁ e =
        let rest : List X = drop n (drop at block) in
        let stops : (run.why ≡ᵇ 0) ≡ false = ne_eqb run.why 0 (λ z. omega (arith, ap (λ (t : Told). t.why) told_is)) in
        (λ i. record {
          after = (run_is i).after;
          told = record { taken = at + (told_is i).taken; written = written + (told_is i).written; why = (told_is i).why };
          bytes = out₁;
        })
        ∙ progress-last run out₁
        (both ∙ ap (λ (b : Bool). if b then joined run.taken run.records (fed_by M run.after rest (left - length run.records)) else run) stops)
        (bytes-are out₁ e)
