-- The return addresses on a stack, from the top down.
use Rattle.std.proofs.Common.{◌≡◌, ℕ, suc, ◌+◌, ◌<◌, List, [], ◌∷◌, ◌++◌, length, drop, refl, sym, ap, ◌∙◌, arith}
use Rattle.std.proofs.Common.{get_or}
use Rattle.std.specs.Prelude.{reverse}
use Rattle.std.proofs.lemmas.List.{reverse-append, drop_all}
use Rattle.std.proofs.Math.Seq.{drop-cons}
use Rattle.sp_code.specs.Machine.{Entry, Number, Chan, Pointer, Cells, Link, Reply}
use Rattle.sp_machine.specs.Calls.{returns}
use Rattle.sp_machine.specs.declared.stack.Operand.{Operand}
use Rattle.sp_machine.specs.StackEntries.{entries_of, entry_of}
use Rattle.sp_machine.proofs.CallLaws.{entries_append}

returns_append : (xs ys : List Entry) → returns (xs ++ ys) ≡ returns xs ++ returns ys
returns_append [] ys = refl
returns_append (Number v ∷ xs) ys = returns_append xs ys
returns_append (Chan c ∷ xs) ys = returns_append xs ys
returns_append (Pointer a ∷ xs) ys = returns_append xs ys
returns_append (Cells cs ∷ xs) ys = returns_append xs ys
returns_append (Link r ∷ xs) ys = ap (λ (rs : List ℕ). r ∷ rs) (returns_append xs ys)
returns_append (Reply r ∷ xs) ys = ap (λ (rs : List ℕ). r ∷ rs) (returns_append xs ys)

-- none of those above the top
pub none_yet : (xs : List Operand) → returns (entries_of (reverse (drop (length xs) xs))) ≡ []
none_yet xs = ap (λ (ys : List Operand). returns (entries_of (reverse ys))) (drop_all (length xs) xs (omega arith))

-- one entry further down
pub one_more : (xs : List Operand) (i j : ℕ) (x : Operand) → j ≡ i + 1 → i < length xs → x ≡ get_or xs i x
    → returns (entries_of (reverse (drop j xs))) ++ returns (entry_of x ∷ [])
    ≡ returns (entries_of (reverse (drop i xs)))
one_more xs i j x e h g =
    let next : suc i ≡ j = omega (arith, e) in
    let parts : drop i xs ≡ x ∷ drop j xs = drop-cons xs i x h ∙ ap (λ (y : Operand). y ∷ drop (suc i) xs) (sym g)
    ∙ ap (λ n. x ∷ drop n xs) next in
    sym (ap (λ (ys : List Operand). returns (entries_of (reverse ys))) parts
    ∙ ap (λ (ys : List Operand). returns (entries_of ys)) (reverse-append (x ∷ []) (drop j xs))
    ∙ ap returns (entries_append (reverse (drop j xs)) (x ∷ []))
    ∙ returns_append (entries_of (reverse (drop j xs))) (entry_of x ∷ []))
