-- Bytes put after the output, one text after another.
use Rattle.std.proofs.Common.{◌≡◌, ℕ, zero, suc, ◌+◌, List, [], ◌∷◌, ◌++◌, length, Option, Some, None, true, refl, sym}
use Rattle.std.proofs.Common.{ap, ◌∙◌, arith, replicate, append_assoc}
use Rattle.std.proofs.lemmas.List.{append-nil}
use Rattle.std.specs.FinMap as map
use Rattle.sp_cell.specs.Map.{Content, Own, Shared, Output, Away, Plain, with_map, with_more_output, output_of}
use Rattle.sp_cell.specs.Map.{output_spot}
use Rattle.sp_cell.specs.Map.{bytes_of}
use Rattle.sp_cell.proofs.Laws.{insert_same, insert_twice, get_here}
use Rattle.sp_code.specs.Memory.{is_held}
use Rattle.sp_code.specs.PlainStore.{plain}

held_is : (o : Option Content) → is_held (output_of o) ≡ true → o ≡ Some (Output (bytes_of o))
held_is None e = absurd cc
held_is (Some (Own cs)) e = absurd cc
held_is (Some (Shared cs)) e = absurd cc
held_is (Some (Output bs)) e = refl
held_is (Some Away) e = absurd cc

pub appended_none : (p : Plain) → is_held (plain.output p) ≡ true → p ≡ plain.appended p []
appended_none p h =
    let there : map.get p.map output_spot ≡ Some (Output (bytes_of (map.get p.map output_spot))) =
    held_is (map.get p.map output_spot) h in
    ap (with_map p) (sym (ap (λ bs. map.insert p.map output_spot (Output bs))
    (append-nil (bytes_of (map.get p.map output_spot)))
    ∙ insert_same p.map output_spot (Output (bytes_of (map.get p.map output_spot))) there))

pub appended_more : (p : Plain) (a b : List ℕ) → plain.appended (plain.appended p a) b ≡ plain.appended p (a ++ b)
appended_more p a b =
    let old : List ℕ = bytes_of (map.get p.map output_spot) in
    ap (with_map p) (
    ap (λ (o : Option Content). map.insert (with_more_output p.map a) output_spot (Output (bytes_of o ++ b)))
    (get_here p.map output_spot (Output (old ++ a)))
    ∙ insert_twice p.map output_spot (Output (old ++ a)) (Output ((old ++ a) ++ b))
    ∙ ap (λ bs. map.insert p.map output_spot (Output bs)) (append_assoc old a b))

pub appended_held : (p : Plain) (a : List ℕ) → is_held (plain.output (plain.appended p a)) ≡ true
appended_held p a = ap (λ (o : Option Content). is_held (output_of o))
    (get_here p.map output_spot (Output (bytes_of (map.get p.map output_spot) ++ a)))

pub blanks_more : (n : ℕ) → ◌++◌ {A = ℕ} (replicate n 32) (32 ∷ []) ≡ replicate (n + 1) 32
blanks_more zero = refl
blanks_more (suc n) = let one : suc (n + 1) ≡ suc n + 1 = omega arith in
    ap (λ (bs : List ℕ). 32 ∷ bs) (blanks_more n) ∙ ap (λ (k : ℕ). replicate {A = ℕ} k 32) one

pub length_blanks : (n : ℕ) (t : List ℕ) → length (◌++◌ {A = ℕ} (replicate n 32) t) ≡ n + length t
length_blanks zero t = omega arith
length_blanks (suc n) t = let one : suc (n + length t) ≡ suc n + length t = omega arith in
    ap suc (length_blanks n t) ∙ one
