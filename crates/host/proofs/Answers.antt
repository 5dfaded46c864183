-- The ways of advance and of try: each refusal leaves every buffer as it was; else they are as feed, the reply and save leave them. And the ways of the count.
use Rattle.std.specs.Prelude.{◌≢◌, if◌then◌else◌, Bool, true, false, not, List, ℕ, zero, suc, ◌%◌, ◌≤◌, ◌<◌, length, Result, Ok, Err}
use Rattle.std.proofs.Common.{◌≡◌, refl, sym, ◌∙◌, ap, arith, eq-eqb, ne_eqb, le-leb, lt-ltb, le-ltb}
use Rattle.std.proofs.lemmas.Bool.{lt-leb}
use Rattle.numbers.specs.Notation.{◌≡ᵇ◌, refuse◌unless◌then◌}
use Rattle.numbers.specs.Answers.{Answered, answered}
use Rattle.numbers.specs.Answers.Answered.{accepted, refused}
use Rattle.numbers.specs.AnswersLaws.{accepted-is, refused-is}
use Rattle.numbers.specs.declared.Refusal.{Refusal}
use Rattle.numbers.specs.declared.Refusal.TheVariants.{OddSamples}
use Rattle.numbers.specs.Refusals.{number_of}
use Rattle.reading.specs.Told.{Told}
use Rattle.reading.specs.Restore.{restore_refusal}
use Rattle.reading.specs.Calls.{Outcome, Trial, without_logger, Saved, Restoration}
use Rattle.reading.specs.Engineer.{too_short}
use Rattle.reading.specs.Layout.{image_length, reply_length, day_reply_length}
use Rattle.samples.specs.Samples.{samples_of}
use Rattle.state.specs.declared.State.{State}
use Rattle.state.specs.State.{fresh}
use Rattle.state.specs.Calls.{fed_with}
use Rattle.image.specs.Image.{state_at, save_answer}
use Rattle.logger.specs.declared.Logger.{Logger}
use Rattle.logger.specs.Logger.{started_told, fed_to, saved_to}
use Rattle.logger.specs.Calls.{logger_calls, spare_settings, resumed_to}
use Rattle.logger.proofs.CallsLaws.{restore-accepted, restore-refused}
use Rattle.day_count.specs.declared.DayCount.{DayCount}
use Rattle.day_count.specs.Days.{day_counted}
use Rattle.host.specs.Host.{begun_to, begun_by, begun, block_refusal, reply_refusal, advance_refusal, try_refusal}
use Rattle.host.specs.Host.{replied, advanced_to, advanced_by, advanced, block_tried_to, block_tried_by, block_tried}
use Rattle.host.specs.Host.{CountedDay, day_replied, counted_to, counted_by, counted}

-- an answer that refuses
refused-by : {A : Type 0} (n : ℕ) (a : A) → 0 < n → refused n ≡ answered n a
refused-by zero a some = absurd (omega arith)
refused-by (suc n) a some = refl

-- begin: a logger's image is saved, or start's refusal is told
module _ (b lent : List ℕ) where
  pub begun-saved : (st : State) (number : ℕ) (image : List ℕ) → saved_to number image ≡ logger_calls.save st lent → accepted st ≡ logger_calls.start b
      → begun_to number image ≡ begun b lent
  unfolding begun
  begun-saved st number image saves starts =
      ap (λ (r : Saved). begun_to r.number r.bytes) saves ∙ ap (λ (a : Answered State). begun_by a lent) starts

  pub begun-refused : (n : ℕ) → refused n ≡ logger_calls.start b → begun_to n lent ≡ begun b lent
  unfolding begun
  begun-refused n starts = ap (λ (a : Answered State). begun_by a lent) starts

-- what advance and try begin with, before the rest
module _ (image samples : List ℕ) where
  abbrev goes : ℕ → Bool → Bool → ℕ → ℕ
  goes r good even rest = refuse r unless good then refuse 12 unless even then rest

  abbrev even : Bool
  even = length samples % 2 ≡ᵇ 0

  first-image : (n : ℕ) → (restore_refusal image ≡ n) × (0 < n) → (rest : ℕ) → block_refusal image samples rest ≡ n
  first-image n p rest = ap (λ (t : Bool). goes (restore_refusal image) t even rest) (ne_eqb (restore_refusal image) 0 (λ z. omega (arith, p.0, p.1))) ∙ p.0

  good-image : restore_refusal image ≡ 0 → (rest : ℕ) → block_refusal image samples rest ≡ goes 0 true even rest
  good-image good rest = ap (λ (r : ℕ). goes r (r ≡ᵇ 0) even rest) good

  -- the logger of an image, and the answer of `resume_for`
  abbrev Resumed : Result Logger Refusal → Type 0
  Resumed r = resumed_to r ≡ logger_calls.restore (fresh spare_settings) image

  abbrev pub ResumedFor : Result Logger Refusal → Type 0
  ResumedFor r = started_told r ≡ answered (block_refusal image samples 0) (state_at image)

  pub image-refused : (r : Refusal) → Resumed (Err r) → ResumedFor (Err r)
  image-refused r e =
      let p = restore-refused (fresh spare_settings) image (number_of r) (sym (ap (λ (k : Restoration State). k.answer) e)) in
      refused-by (number_of r) (state_at image) p.1 ∙ ap (λ (n : ℕ). answered n (state_at image)) (sym (first-image (number_of r) p 0))

  module _ (l : Logger) (e : Resumed (Ok l)) where
    read : (restore_refusal image ≡ 0) × (l.state ≡ state_at image)
    read =
        let r = restore-accepted (fresh spare_settings) image (sym (ap (λ (k : Restoration State). k.answer) e)) in
        (r.0, ap (λ (k : Restoration State). k.after) e ∙ r.1)

    pub odd-refused : length samples % 2 ≢ 0 → ResumedFor (Err OddSamples)
    odd-refused odd =
        sym (ap (λ (n : ℕ). answered n (state_at image)) (good-image read.0 0 ∙ ap (λ (t : Bool). goes 0 true t 0) (ne_eqb (length samples % 2) 0 odd)))

    pub good-resumed : length samples % 2 ≡ 0 → ResumedFor (Ok l)
    good-resumed none =
        ap accepted read.1
        ∙ sym (ap (λ (n : ℕ). answered n (state_at image)) (good-image read.0 0 ∙ ap (λ (t : Bool). goes 0 true t 0) (eq-eqb (length samples % 2) 0 none)))

  -- what it tells of the whole answer
  first-stays : (n : ℕ) → block_refusal image samples 0 ≡ n → 0 < n → (rest : ℕ) → block_refusal image samples rest ≡ n
  first-stays n e some rest = go (restore_refusal image ≡ᵇ 0) even e
    where
      go : (good whole : Bool) → goes (restore_refusal image) good whole 0 ≡ n → goes (restore_refusal image) good whole rest ≡ n
      go false whole e = e
      go true false e = e
      go true true e = absurd (omega arith)

  first-passes : block_refusal image samples 0 ≡ 0 → (rest : ℕ) → block_refusal image samples rest ≡ rest
  first-passes e rest = go (restore_refusal image ≡ᵇ 0) refl even e
    where
      go : (good : Bool) → (restore_refusal image ≡ᵇ 0) ≡ good → (whole : Bool) → goes (restore_refusal image) good whole 0 ≡ 0 → goes (restore_refusal image) good whole rest ≡ rest
      go false not_good whole e = let z : false ≡ true = sym not_good ∙ eq-eqb (restore_refusal image) 0 e in let y : ◌≡◌ {A = ℕ} 0 1 = cc in absurd (omega arith)
      go true good false e = absurd (omega arith)
      go true good true e = refl

  refused-for : (r : Refusal) → ResumedFor (Err r) → (rest : ℕ) → (block_refusal image samples rest ≡ number_of r) × (0 < number_of r)
  refused-for r e rest =
      let p = refused-is (block_refusal image samples 0) (number_of r) (state_at image) (sym e) in
      (first-stays (number_of r) p.0 p.1 rest, p.1)

  resumed-for : (l : Logger) → ResumedFor (Ok l) → ((rest : ℕ) → block_refusal image samples rest ≡ rest) × (l.state ≡ state_at image)
  resumed-for l e =
      let p = accepted-is (block_refusal image samples 0) (state_at image) l.state (sym e) in
      (first-passes p.0, sym p.1)

-- and end with
module _ (reply : List ℕ) where
  last-reply : length reply < reply_length → reply_refusal reply ≡ 13
  last-reply short = ap (λ (full : Bool). refuse 13 unless full then 0) (lt-leb reply_length (length reply) short)

  last_none : reply_length ≤ length reply → reply_refusal reply ≡ 0
  last_none full = ap (λ (full : Bool). refuse 13 unless full then 0) (le-leb reply_length (length reply) full)

-- each way out of advance
module _ (image samples next records reply : List ℕ) where
  abbrev next_refusal : Bool → ℕ
  next_refusal short = refuse 7 unless not short then reply_refusal reply

  abbrev fed : Outcome State
  fed = fed_with (state_at image) (samples_of samples) records

  abbrev AdvanceIs : ℕ → Type 0
  AdvanceIs n = advanced_to n next records reply ≡ advanced image samples next records reply

  advance-refused : (n : ℕ) → 0 < n → advance_refusal image samples next reply ≡ n → AdvanceIs n
  unfolding advanced
  advance-refused zero some e = absurd (omega arith)
  advance-refused (suc n) some e = sym (ap (λ (m : ℕ). advanced_by m fed next records reply) e)

  pub not-resumed : (r : Refusal) → ResumedFor image samples (Err r) → AdvanceIs (number_of r)
  not-resumed r e = let p = refused-for image samples r e (next_refusal (too_short next)) in advance-refused (number_of r) p.1 p.0

  module _ (l : Logger) (is : ResumedFor image samples (Ok l)) where
    next-or : (short : Bool) → too_short next ≡ short → advance_refusal image samples next reply ≡ next_refusal short
    next-or short e = (resumed-for image samples l is).0 (next_refusal (too_short next)) ∙ ap next_refusal e

    pub next-refused : length next < image_length → AdvanceIs 7
    next-refused short = advance-refused 7 (omega arith) (next-or true (lt-ltb (length next) image_length short))

    module _ (long : image_length ≤ length next) where
      fits : too_short next ≡ false
      fits = le-ltb (length next) image_length long

      pub reply-refused : length reply < reply_length → AdvanceIs 13
      reply-refused short = advance-refused 13 (omega arith) (next-or false fits ∙ last-reply reply short)

      -- no refusal: the buffers are those of feed, the reply and save
      pub all_done : reply_length ≤ length reply → (after : State) (told : Told) (out replied₁ saved : List ℕ) (number : ℕ) →
          fed_to after told out ≡ logger_calls.feed l.state (samples_of samples) records → replied₁ ≡ replied told reply →
          saved_to number saved ≡ logger_calls.save after next → advanced_to number saved out replied₁ ≡ advanced image samples next records reply
      unfolding advanced save_answer
      all_done full after told out replied₁ saved number feeds replies saves =
          let none : advance_refusal image samples next reply ≡ 0 = next-or false fits ∙ last_none reply full in
          let f : fed_to after told out ≡ fed = feeds ∙ ap (λ (st : State). fed_with st (samples_of samples) records) (resumed-for image samples l is).1 in
          let n : number ≡ 0 = ap (λ (r : Saved). r.number) saves ∙ ap (λ (t : Bool). if t then 7 else 0) fits in
          let s : saved ≡ (logger_calls.save after next).bytes = ap (λ (r : Saved). r.bytes) saves in
          (λ i. advanced_to (n i) (s i) out (replies i))
          ∙ (λ i. advanced_by 0 (f i) next records reply)
          ∙ sym (ap (λ (m : ℕ). advanced_by m fed next records reply) none)

-- each way out of try
module _ (image samples scratch reply : List ℕ) where
  abbrev trial : Trial
  trial = logger_calls.trial (state_at image) (samples_of samples) scratch

  abbrev TryIs : ℕ → Type 0
  TryIs n = block_tried_to n scratch reply ≡ block_tried image samples scratch reply

  try-refused : (n : ℕ) → 0 < n → try_refusal image samples reply ≡ n → TryIs n
  unfolding block_tried
  try-refused zero some e = absurd (omega arith)
  try-refused (suc n) some e = sym (ap (λ (m : ℕ). block_tried_by m trial scratch reply) e)

  pub try-not-resumed : (r : Refusal) → ResumedFor image samples (Err r) → TryIs (number_of r)
  try-not-resumed r e = let p = refused-for image samples r e (reply_refusal reply) in try-refused (number_of r) p.1 p.0

  module _ (l : Logger) (is : ResumedFor image samples (Ok l)) where
    reply-next : try_refusal image samples reply ≡ reply_refusal reply
    reply-next = (resumed-for image samples l is).0 (reply_refusal reply)

    pub try-reply-refused : length reply < reply_length → TryIs 13
    try-reply-refused short = try-refused 13 (omega arith) (reply-next ∙ last-reply reply short)

    -- no refusal: the buffers are those of the trial and the reply
    pub try-done : reply_length ≤ length reply → (after : State) (told : Told) (out replied₁ : List ℕ) →
        fed_to after told out ≡ logger_calls.feed l.state (samples_of samples) scratch → replied₁ ≡ replied told reply →
        block_tried_to 0 out replied₁ ≡ block_tried image samples scratch reply
    unfolding block_tried
    try-done full after told out replied₁ feeds replies =
        let f : fed_to after told out ≡ fed_with (state_at image) (samples_of samples) scratch =
        feeds ∙ ap (λ (st : State). fed_with st (samples_of samples) scratch) (resumed-for image samples l is).1 in
        (λ i. block_tried_to 0 out (replies i))
        ∙ (λ i. block_tried_by 0 (without_logger (f i)) scratch reply)
        ∙ sym (ap (λ (m : ℕ). block_tried_by m trial scratch reply) (reply-next ∙ last_none reply full))

-- each way out of the count
module _ (settings records : List ℕ) (z : ℕ) (above : Bool) (day : ℕ) (reply : List ℕ) where
  abbrev CountIs : CountedDay → Type 0
  CountIs left = left ≡ counted settings records z above day reply

  pub counts : (told : Answered DayCount) → told ≡ day_counted settings records z above day → CountIs (counted_by told reply)
  unfolding counted
  counts told is = ap (λ (a : Answered DayCount). counted_by a reply) is

  module _ (d : DayCount) (is : accepted d ≡ day_counted settings records z above day) where
    abbrev leaves : Bool → CountedDay
    leaves long = if long then counted_to 0 (day_replied d reply) else counted_to 13 reply

    pub day-refused : length reply < day_reply_length → CountIs (counted_to 13 reply)
    day-refused short = sym (ap leaves (lt-leb day_reply_length (length reply) short)) ∙ counts (accepted d) is

    pub day-told : day_reply_length ≤ length reply → (after : List ℕ) → after ≡ day_replied d reply → CountIs (counted_to 0 after)
    day-told long after replies = ap (counted_to 0) replies ∙ sym (ap leaves (le-leb day_reply_length (length reply) long)) ∙ counts (accepted d) is
