-- 01, "Settings": nine numbers of 4 bytes, their ranges, and the refusals of start.
use Rattle.std.specs.Prelude.{List, [], ◌∷◌, ℕ, ◌+◌, ◌-◌, ◌*◌, ◌/◌, length, get_or, replicate, if◌then◌else◌}
use Rattle.octets.specs.Bytes.{row, numbers_in, total}
use Rattle.numbers.specs.Notation.{◌≡ᵇ◌, refuse◌unless◌then◌}
use Rattle.numbers.specs.Rules.{Rule, passes, Holds}
use Rattle.numbers.specs.Rules.Rule.{◌≤ʳ◌, ◌<ʳ◌, ◌≡ʳ◌, ◌and◌, ◌or◌}
use Rattle.numbers.specs.Answers.{Answered, answered}
use Rattle.settings.specs.declared.Settings.{Settings}
use Rattle.settings.specs.declared.Scaled.{Scaled}

-- N, the values in the window: 100 at 50 Hz, else 120
abbrev pub window_length_of : Settings → ℕ
window_length_of s = if s.frequency ≡ᵇ 50 then 100 else 120

-- M, F, U, T, H, I, D, W, G
abbrev pub numbers_of : Settings → List ℕ
numbers_of s = s.samples ∷ s.frequency ∷ s.declared ∷ s.limit ∷ s.reduction ∷ s.interruption ∷ s.dip ∷ s.swell ∷ s.hysteresis ∷ []

abbrev pub settings_from : List ℕ → Settings
settings_from ns = record {
  samples = get_or ns 0 0;
  frequency = get_or ns 1 0;
  declared = get_or ns 2 0;
  limit = get_or ns 3 0;
  reduction = get_or ns 4 0;
  interruption = get_or ns 5 0;
  dip = get_or ns 6 0;
  swell = get_or ns 7 0;
  hysteresis = get_or ns 8 0;
}

-- nine numbers of 4 bytes: 36 bytes in all
abbrev pub settings_widths : List ℕ
settings_widths = replicate 9 4

abbrev pub settings_length : ℕ
settings_length = total settings_widths

-- the settings as bytes, and the settings that bytes are, in range or not
abbrev pub settings_bytes : Settings → List ℕ
settings_bytes s = row settings_widths (numbers_of s)

abbrev pub settings_of : List ℕ → Settings
settings_of b = settings_from (numbers_in settings_widths b)

-- M is 8 to 256
abbrev pub samples_rule : Settings → Rule
samples_rule s = 8 ≤ʳ s.samples and s.samples ≤ʳ 256

-- F is 50 or 60
abbrev pub frequency_rule : Settings → Rule
frequency_rule s = s.frequency ≡ʳ 50 or s.frequency ≡ʳ 60

-- U is 16 to 524,288
abbrev pub declared_rule : Settings → Rule
declared_rule s = 16 ≤ʳ s.declared and s.declared ≤ʳ 524288

-- T is 50 to 600, and H is below T
abbrev pub limit_rule : Settings → Rule
limit_rule s = 50 ≤ʳ s.limit and s.limit ≤ʳ 600 and s.reduction <ʳ s.limit

-- I, D, W and G are each at most 20,000, and I at least 1
abbrev pub levels_rule : Settings → Rule
levels_rule s = 1 ≤ʳ s.interruption and s.interruption ≤ʳ 20000 and s.dip ≤ʳ 20000 and s.swell ≤ʳ 20000 and s.hysteresis ≤ʳ 20000

-- I + G ≤ D, and D + 2 × G < W
abbrev pub order_rule : Settings → Rule
order_rule s = s.interruption + s.hysteresis ≤ʳ s.dip and s.dip + 2 * s.hysteresis <ʳ s.swell

-- start's refusals 2 to 6: the lowest number that applies, 0 where none does
unfoldable pub settings_refusal : Settings → ℕ
settings_refusal s =
    refuse 2 unless passes (samples_rule s) then
    refuse 3 unless passes (frequency_rule s) then
    refuse 4 unless passes (declared_rule s) then
    refuse 5 unless passes (limit_rule s) then
    refuse 6 unless passes (levels_rule s and order_rule s) then
    0

-- with the length first
unfoldable pub start_refusal : List ℕ → ℕ
start_refusal b = refuse 1 unless length b ≡ᵇ settings_length then settings_refusal (settings_of b)

-- the answer to settings bytes: the settings, or the refusal
unfoldable pub settings_read : List ℕ → Answered Settings
settings_read b = answered (start_refusal b) (settings_of b)

-- the levels scaled for exact comparison with 10,000 × r, and the RVC limits for one with |N × r − A|: 10,000 × x ≤ t exactly where x ≤ t / 10,000
abbrev pub scaled_of : Settings → Scaled
scaled_of s = record {
  dip = record { begins = s.dip * s.declared; ends = (s.dip + s.hysteresis) * s.declared };
  swell = record { begins = s.swell * s.declared; ends = (s.swell - s.hysteresis) * s.declared };
  interruption = record { begins = s.interruption * s.declared; ends = (s.interruption + s.hysteresis) * s.declared };
  limit = s.limit * window_length_of s * s.declared / 10000;
  reduction = s.limit * window_length_of s * s.declared / 10000 - (s.limit - s.reduction) * window_length_of s * s.declared / 10000;
}

-- what the refusals 2 to 6 leave
pub record ValidSettings (s : Settings) : Type 0 where
  pub samples-valid : Holds (samples_rule s)
  pub frequency-valid : Holds (frequency_rule s)
  pub declared-valid : Holds (declared_rule s)
  pub limit-valid : Holds (limit_rule s)
  pub levels-valid : Holds (levels_rule s)
  pub order-valid : Holds (order_rule s)
