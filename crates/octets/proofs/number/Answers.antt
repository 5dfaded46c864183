use mathlib.Core.Path.{◌≡◌, ap, sym}
use mathlib.Core.List.{List}
use Prim.Native.Nat.{ℕ, ◌-◌, ◌+◌, ◌≤◌, ◌<◌, ◌^◌}
use native.Mathlib.Omega.{arith}
use lib.ListN.{length, get_or, drop, length-drop}
use lib.Seq.{drop-length}
use mir.Val.{Fits}
use mir.Syntax.{w8}
use Rattle.octets.specs.Bytes.{number_of}
use Rattle.octets.specs.BytesLaws.{bytes-by, bytes_drop, number_of-lt}
use Rattle.octets.proofs.Loops.{drop-one}
use Rattle.octets.proofs.number.Goals as goal

-- at most 7 bytes are read before a turn, and one more below them fits
small : (bytes : List ℕ) (i x : ℕ) → ((k : ℕ) → Fits w8 (get_or bytes k 0)) → length bytes ≤ 8 → 0 < i → x ≡ number_of (drop i bytes) → x < 256 ^ 7
small bytes i x fit most some is =
    rw is (number_of-lt 7 (drop i bytes) (bytes_drop i bytes (bytes-by bytes (λ k. (fit k).fits))) (simp length-drop (omega arith)))

pub loop-i-init : goal.loop-i-init
loop-i-init c = sym (ap number_of (drop-length c.args.bytes.now))

pub overflow_mul-x : goal.overflow_mul-x
overflow_mul-x c =
    record { fits = omega (arith, small c.args.bytes.now c.loop-i.i c.loop-i.x c.type_inv.bytes c.requires c.loop-i-test.true c.loop-i.invariant) }

pub overflow_add-x : goal.overflow_add-x
overflow_add-x c =
    let byte : c.from.result < 256 = rw c.from.ensures ((c.type_inv.bytes (c.loop-i.i - 1)).fits) in
    record { fits = omega (arith, byte, small c.args.bytes.now c.loop-i.i c.loop-i.x c.type_inv.bytes c.requires c.loop-i-test.true c.loop-i.invariant) }

pub loop-i-preserved : goal.loop-i-preserved
loop-i-preserved c =
    let bytes = c.args.bytes.now in
    let i = c.loop-i.i in
    let up : i - 1 + 1 ≡ i = omega arith in
    omega (arith, c.from.ensures, c.loop-i.invariant, rw up at (ap number_of (drop-one bytes (i - 1) (omega arith))))

pub returns : goal.returns
returns c =
    let all : c.loop-i.i ≡ 0 = omega arith in
    rw all at c.loop-i.invariant
