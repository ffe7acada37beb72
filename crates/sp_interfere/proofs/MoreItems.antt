-- One more item of a list in memory.
use Rattle.std.proofs.Common.{◌≡◌, ℕ, suc, ◌+◌, ◌<◌, List, [], ◌∷◌, ◌++◌, map, length, get_or, take, drop, refl}
use Rattle.std.proofs.Common.{sym, ap, ◌∙◌, arith}
use Rattle.std.specs.List.{list_any}
use Rattle.std.proofs.lemmas.List.{take_more, drop_more, append-nil, map-append}
use Rattle.sp_base.specs.declared.rule.Rule.TheVariants as rule
use Rattle.sp_tree.specs.declared.checked.Actual as actual
use Rattle.sp_tree.specs.declared.checked.Block as block
use Rattle.sp_tree.specs.declared.checked.Stmt as stmt
use Rattle.sp_tree.specs.CheckedOf.{actuals, actual_of, block_of, statement_of, statements}
use Rattle.sp_tree.specs.PhaseResults.{FirstRefusal, refusal_if, earlier_refusal}
use Rattle.sp_tree.specs.Interferes.{place_of}
use Rattle.sp_tree.specs.PlainChecked.{Actual, ByValue, ByReference, Entire, Actuals, Nothing, Pass, Statement}
use Rattle.sp_tree.specs.PlainChecked.{Program}
use Rattle.sp_varsets.specs.declared.sets.Sets.{Sets}
use Rattle.sp_varsets.specs.Parts.{number_of}
use Rattle.sp_interfere.specs.Tests.{clash}
use Rattle.sp_interfere.specs.Rules.{numbers_of, references, parts_first, repeats_first, blocks_first}

numbers_append : (xs : List Statement) (t : Statement)
    → numbers_of (statements (xs ++ t ∷ [])) ≡ numbers_of (statements xs) ++ number_of t ∷ []
numbers_append [] t = refl
numbers_append (x ∷ xs) t = ap (λ ns. number_of x ∷ ns) (numbers_append xs t)

references_append : (xs : List Actual) (a : Actual)
    → references (actuals (xs ++ a ∷ [])) ≡ references (actuals xs) ++ references (Pass a Nothing)
references_append [] a = refl
references_append (ByValue e ∷ xs) a = references_append xs a
references_append (ByReference (Entire y at ss) ∷ xs) a = ap (λ ns. y ∷ ns) (references_append xs a)

-- one more process statement
pub more_numbers : (xs : List stmt.Stmt) (i : ℕ) (t : stmt.Stmt) → i < length xs → t ≡ get_or xs i t
    → numbers_of (statements (map statement_of (take (i + 1) xs)))
    ≡ numbers_of (statements (map statement_of (take i xs))) ++ number_of (statement_of t) ∷ []
more_numbers xs i t l e =
    ap (λ ys. numbers_of (statements (map statement_of ys))) (take_more xs i t l)
    ∙ (ap (λ ys. numbers_of (statements ys)) (map-append statement_of (take i xs) (get_or xs i t ∷ []))
    ∙ (numbers_append (map statement_of (take i xs)) (statement_of (get_or xs i t))
    ∙ ap (λ u. numbers_of (statements (map statement_of (take i xs))) ++ number_of (statement_of u) ∷ []) (sym e)))

pub more_parts : (s : Sets) (xs : List stmt.Stmt) (i : ℕ) (t : stmt.Stmt) (g : FirstRefusal) → i < length xs
    → t ≡ get_or xs i t
    → parts_first s (numbers_of (statements (map statement_of (take (i + 1) xs))))
    (statements (map statement_of (drop (i + 1) xs)))
    (earlier_refusal g (refusal_if rule.I1 (place_of (statement_of t))
    (list_any (λ m. clash s m (number_of (statement_of t)))
    (numbers_of (statements (map statement_of (take i xs)))))))
    ≡ parts_first s (numbers_of (statements (map statement_of (take i xs)))) (statements (map statement_of (drop i xs)))
    g
more_parts s xs i t g l e =
    ap (λ ns. parts_first s ns (statements (map statement_of (drop (i + 1) xs)))
    (earlier_refusal g (refusal_if rule.I1 (place_of (statement_of t))
    (list_any (λ m. clash s m (number_of (statement_of t)))
    (numbers_of (statements (map statement_of (take i xs)))))))) (more_numbers xs i t l e)
    ∙ sym (ap (λ ys. parts_first s (numbers_of (statements (map statement_of (take i xs))))
    (statements (map statement_of ys)) g) (drop_more xs i t l ∙ ap (λ u. u ∷ drop (i + 1) xs) (sym e)))

-- one more parameter
one_more : (s : Sets) (ns : List ℕ) (a : Actual) (rest : Actuals) (g : FirstRefusal)
    → repeats_first s (ns ++ references (Pass a Nothing)) rest (repeats_first s ns (Pass a Nothing) g)
    ≡ repeats_first s ns (Pass a rest) g
one_more s ns (ByValue e) rest g = ap (λ q. repeats_first s q rest g) (append-nil ns)
one_more s ns (ByReference (Entire y at ss)) rest g = refl

more_references : (xs : List actual.Actual) (i : ℕ) (a : actual.Actual) → i < length xs → a ≡ get_or xs i a
    → references (actuals (map actual_of (take (i + 1) xs))) ≡ references (actuals (map actual_of (take i xs)))
    ++ references (Pass (actual_of a) Nothing)
more_references xs i a l e =
    ap (λ ys. references (actuals (map actual_of ys))) (take_more xs i a l)
    ∙ (ap (λ ys. references (actuals ys)) (map-append actual_of (take i xs) (get_or xs i a ∷ []))
    ∙ (references_append (map actual_of (take i xs)) (actual_of (get_or xs i a))
    ∙ ap (λ u. references (actuals (map actual_of (take i xs))) ++ references (Pass (actual_of u) Nothing)) (sym e)))

pub more_repeats : (s : Sets) (xs : List actual.Actual) (i : ℕ) (a : actual.Actual) (g r : FirstRefusal) → i < length xs
    → a ≡ get_or xs i a
    → r ≡ repeats_first s (references (actuals (map actual_of (take i xs)))) (actuals (map actual_of (a ∷ []))) g
    → repeats_first s (references (actuals (map actual_of (take (i + 1) xs))))
    (actuals (map actual_of (drop (i + 1) xs))) r
    ≡ repeats_first s (references (actuals (map actual_of (take i xs)))) (actuals (map actual_of (drop i xs))) g
more_repeats s xs i a g r l e q =
    ap (λ ns. repeats_first s ns (actuals (map actual_of (drop (i + 1) xs))) r) (more_references xs i a l e)
    ∙ (ap (repeats_first s (references (actuals (map actual_of (take i xs))) ++ references (Pass (actual_of a) Nothing))
    (actuals (map actual_of (drop (i + 1) xs)))) q
    ∙ (one_more s (references (actuals (map actual_of (take i xs)))) (actual_of a)
    (actuals (map actual_of (drop (i + 1) xs))) g
    ∙ sym (ap (λ ys. repeats_first s (references (actuals (map actual_of (take i xs)))) (actuals (map actual_of ys)) g)
    (drop_more xs i a l ∙ ap (λ u. u ∷ drop (i + 1) xs) (sym e)))))

-- one more block
pub more_blocks : (s : Sets) (c : Program) (xs : List block.Block) (i : ℕ) (k : block.Block) (g r : FirstRefusal)
    → i < length xs → k ≡ get_or xs i k
    → r ≡ blocks_first s c i (block_of k ∷ []) g
    → blocks_first s c (i + 1) (map block_of (drop (i + 1) xs)) r ≡ blocks_first s c i (map block_of (drop i xs)) g
more_blocks s c xs i k g r l e q =
    let n : i + 1 ≡ suc i = omega arith in
    ap (λ b. blocks_first s c b (map block_of (drop (i + 1) xs)) r) n
    ∙ (ap (blocks_first s c (suc i) (map block_of (drop (i + 1) xs))) q
    ∙ sym (ap (λ ys. blocks_first s c i (map block_of ys) g)
    (drop_more xs i k l ∙ ap (λ u. u ∷ drop (i + 1) xs) (sym e))))
