-- 01, "Rapid voltage changes", with 02's recovery from a long dip.
use Rattle.std.specs.Prelude.{Bool, ◌&&◌, ◌||◌, List, [], ◌∷◌, ℕ, suc, ◌+◌, ◌-◌, ◌*◌, max, length, take, if◌then◌else◌}
use Rattle.settings.specs.declared.Settings.{Settings}
use Rattle.numbers.specs.Notation.{◌≤ᵇ◌, ◌<ᵇ◌, ◌≡ᵇ◌, all}
use Rattle.settings.specs.Settings.{window_length_of}
use Rattle.reading.specs.declared.Kind.TheVariants.{Dip, Swell}
use Rattle.reading.specs.declared.Event.{Event}
use Rattle.reading.specs.Values.{since, up_to}
use Rattle.reading.specs.Thresholds.{stands_since}

-- the sum of values
abbrev pub sum : List ℕ → ℕ
sum [] = 0
sum (x ∷ xs) = x + sum xs

-- A: the sum of the N values that end with the newest
abbrev pub window_sum : Settings → List ℕ → ℕ
window_sum s hist = sum (take (window_length_of s) hist)

-- |a − b|
abbrev pub gap : ℕ → ℕ → ℕ
gap a b = (a - b) + (b - a)

-- 01's calm: at the newest value, under the limit t, every r of the window has 10,000 × |N × r − A| ≤ t × N × U
abbrev pub within : ℕ → ℕ → ℕ → ℕ → Bool
within n a limit r = 10000 * gap (n * r) a ≤ᵇ limit

abbrev pub calm : Settings → ℕ → List ℕ → Bool
calm s t hist = let n = window_length_of s in all (within n (window_sum s hist) (t * n * s.declared)) (take n hist)

-- the steady signal with what must be kept of it: fewer than N values; never yet true; true; false since value k, and true at k − 1
pub data Signal : Type 0 where
  filling : Signal
  unsettled : Signal
  steady : Signal
  changing : ℕ → Signal

-- the signal at the newest value. At N, while it has never been true and while it is true: calm under T. After it turned false at k: false
-- up to k + N, then calm under T − H
abbrev pub next : Settings → List ℕ → Signal → Signal
next s hist filling = if length hist <ᵇ window_length_of s then filling else if calm s s.limit hist then steady else unsettled
next s hist unsettled = if calm s s.limit hist then steady else unsettled
next s hist steady = if calm s s.limit hist then steady else changing (length hist)
next s hist (changing k) =
    if length hist ≤ᵇ k + window_length_of s then changing k
    else if calm s (s.limit - s.reduction) hist then steady
    else changing k

-- the signal of a history
abbrev pub signal : Settings → List ℕ → Signal
signal s [] = filling
signal s (r ∷ older) = next s (r ∷ older) (signal s older)

-- the first value from k on at which a dip or a swell first stands, 0 where there is none
abbrev pub first_stand : Settings → ℕ → List ℕ → ℕ
first_stand s k [] = 0
first_stand s k (r ∷ older) =
    let i = suc (length older) in
    let before = first_stand s k older in
    let here = k ≤ᵇ i && (stands_since s Dip (r ∷ older) ≡ᵇ i || stands_since s Swell (r ∷ older) ≡ᵇ i) in
    if 0 <ᵇ before then before else if here then i else 0

-- whether a dip or a swell stands at the newest value
abbrev pub dip_or_swell : Settings → List ℕ → Bool
dip_or_swell s hist = 0 <ᵇ stands_since s Dip hist || 0 <ᵇ stands_since s Swell hist

-- 02, N5: whether one stands at value k − 1
abbrev pub stood_before : Settings → ℕ → List ℕ → Bool
stood_before s k hist = dip_or_swell s (up_to (k - 1) hist)

-- A(k − 1), the sum before a change
abbrev pub sum_before : Settings → ℕ → List ℕ → ℕ
sum_before s k hist = window_sum s (up_to (k - 1) hist)

-- the greatest |N × r − a| of the values rs
abbrev pub farthest : ℕ → ℕ → List ℕ → ℕ
farthest n a [] = 0
farthest n a (r ∷ rs) = max (gap (n * r) a) (farthest n a rs)

-- the greatest |N × r(j) − A(k − 1)| for j from k to V − N, 0 if there is none
abbrev pub greatest_difference : Settings → ℕ → List ℕ → ℕ
greatest_difference s k hist = let n = window_length_of s in farthest n (sum_before s k hist) (since k (up_to (length hist - n) hist))

-- the record of a change that runs from k to the newest value, 01's m; none if a dip or a swell stands at k − 1, or first stands at k to m − N
abbrev pub change_event : Settings → ℕ → List ℕ → List Event
change_event s k hist =
    let last = length hist - window_length_of s in
    let e : Event = record { kind = 4; start = k; duration = last - k; first = greatest_difference s k hist; second = gap (window_sum s hist) (sum_before s k hist) } in
    if stood_before s k hist || 0 <ᵇ first_stand s k (up_to last hist) then [] else e ∷ []

-- due at the newest value: the change in progress before it, where the signal is true again
abbrev pub change_over : Settings → List ℕ → Signal → Signal → List Event
change_over s hist filling now = []
change_over s hist unsettled now = []
change_over s hist steady now = []
change_over s hist (changing k) filling = []
change_over s hist (changing k) unsettled = []
change_over s hist (changing k) steady = change_event s k hist
change_over s hist (changing k) (changing j) = []

abbrev pub change_due : Settings → List ℕ → List Event
change_due s [] = []
change_due s (r ∷ older) = let before = signal s older in change_over s (r ∷ older) before (next s (r ∷ older) before)
