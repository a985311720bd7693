-- The lines of a report and what they count, node by node.
use Rattle.std.proofs.Common.{◌≡◌, ℕ, zero, suc, ◌+◌, ◌<◌, ◌≤◌, Bool, cond, List, ◌++◌, length, take, eqb, sym, refl, ap, ◌∙◌, subst, inl, inr, add-one, arith, length-append}
use Rattle.std.proofs.lemmas.Bool.{cases_eq}
use Rattle.std.proofs.lemmas.Bool.Decides.{nat_tests}
use Rattle.std.proofs.Math.Seq.{take-length}
use Rattle.std.proofs.lemmas.List.Sums.{sum_by_more}
use Rattle.std.specs.List.{count_by}
use Rattle.report.specs.Listing.{listed_in}
use Rattle.report.specs.Putting.{RoomFor}
use Rattle.report.specs.Reported.{Findings, node_lines, lines_to, count_to}

-- of bytes that list nodes or not, it is how many are 1
counted : (bytes : List ℕ) (n : ℕ) → n ≤ length bytes → count_to (listed_in bytes) n ≡ count_by (λ b. eqb b 1) (take n bytes)
counted bytes zero h = refl
counted bytes (suc n) h = omega (arith, counted bytes n (omega arith), rw add-one at (sum_by_more (λ b. cond (eqb b 1) 1 0) bytes n 0 (omega arith)))

pub count_listed : (bytes : List ℕ) → count_to (listed_in bytes) (length bytes) ≡ count_by (λ b. eqb b 1) bytes
count_listed bytes = counted bytes (length bytes) (omega arith) ∙ ap (count_by (λ b. eqb b 1)) (take-length bytes)

pub count_le : (has : ℕ → Bool) (n : ℕ) → count_to has n ≤ n
count_le has zero = omega arith
count_le has (suc n) = grind (arith, nat_tests, count_le has n)

pub lines_more : (f : Findings) (n : ℕ) → lines_to f (n + 1) ≡ lines_to f n ++ node_lines f n
lines_more f n = rw add-one

-- the lines of some nodes are no longer than those of more nodes
pub lines_grow : (f : Findings) (n m : ℕ) → n ≤ m → length (lines_to f n) ≤ length (lines_to f m)
lines_grow f n zero h = let same : n ≡ 0 = omega (arith, h) in subst (λ (k : ℕ). length (lines_to f k) ≤ 0) (sym same) (omega arith)
lines_grow f n (suc m) h =
    elim (cases_eq n (suc m)) [
      | inl same ↦ omega (arith, ap (λ (k : ℕ). length (lines_to f k)) same)
      | inr other ↦ omega (arith, lines_grow f n m (omega (arith, h, other)), length-append (lines_to f m) (node_lines f m))
    ]

-- room for the lines of all nodes has room for those of the next
pub node_fits : (f : Findings) (n count : ℕ) (start written : List ℕ) → written ≡ start ++ lines_to f n → n < count → RoomFor start (lines_to f count) → RoomFor written (node_lines f n)
node_fits f n count start written is h room =
    omega (arith, lines_grow f (n + 1) count (omega arith), ap length is, length-append start (lines_to f n), ap length (lines_more f n), length-append (lines_to f n) (node_lines f n))
