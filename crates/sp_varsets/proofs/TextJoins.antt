-- Texts that are joined one after the other.
use Rattle.std.proofs.Common.{◌≡◌, ℕ, zero, suc, ◌+◌, ◌<◌, List, [], ◌∷◌, ◌++◌, Some, slice_get, refl}
use Rattle.std.proofs.Common.{sym, ap, ap₂, ◌∙◌, subst, append_assoc, arith}
use Rattle.std.specs.Prelude.{◌≢◌, codes, length, get_or, Result, Ok, Err, IfOk, OnOk}
use Rattle.sp_varsets.specs.LineForks.{tree_lines}
use Rattle.sp_varsets.specs.TextOrders.{IsInOrder, line_cmp}
use Rattle.sp_varsets.specs.SetsText.{IsBoth, IsImplicit, IsLine, IsLineAt, IsOfBlock, IsSetsText, IsVariables, Joined}
use Rattle.sp_varsets.specs.SetsText.{head_by}
use Rattle.sp_varsets.specs.declared.sets_line.SetsLine.{SetsLine}
use Rattle.sp_tree.specs.PlainChecked.{Block, Program}
use Rattle.sp_tree.specs.declared.checked.Variable.{Variable}
use Rattle.sp_varsets.specs.AreSets.{targets_of, expressions_of, implicit_targets_of, implicit_expressions_of}
use Rattle.sp_varsets.specs.declared.sets.Sets.{Sets}
use Rattle.sp_varsets.specs.declared.var_set.VarSet.{VarSet}

module _ (Is : ℕ → List ℕ → Type 0) where
  -- what was put, and the next text behind it
  pub joined_more : (n : ℕ) (before out after : List ℕ) → ((t : List ℕ) × Joined Is n t × (out ≡ before ++ t))
      → ((u : List ℕ) × Is n u × (after ≡ out ++ u)) → (t : List ℕ) × Joined Is (n + 1) t × (after ≡ before ++ t)
  joined_more n before out after (t, h, e) (u, k, f) = (
    t ++ u,
    subst (λ m. Joined Is m (t ++ u)) next (t, u, h, k, refl),
    f
        ∙ (ap (λ z. z ++ u) e ∙ append_assoc before t u),
  )
    where
      next : suc n ≡ n + 1
      next = omega arith

  pub joined_once : (Other : ℕ → List ℕ → Type 0) (n : ℕ)
      → ((i : ℕ) (a b : List ℕ) → i < n → Is i a → Other i b → a ≡ b) → (a b : List ℕ) → Joined Is n a
      → Joined Other n b → a ≡ b
  joined_once Other zero same a b h k = h ∙ sym k
  joined_once Other (suc n) same a b (x, y, hx, hy, e) (u, v, ku, kv, f) =
      e ∙ (ap₂ (λ (p q : List ℕ). p ++ q) (joined_once Other n (λ i c d low m o. same i c d (omega arith) m o) x u hx
      ku) (same n y v (omega arith) hy kv) ∙ sym f)

-- a text that was put behind another
abbrev pub IsAppended : (List ℕ → Type 0) → List ℕ → List ℕ → Type 0
IsAppended P before after = (t : List ℕ) × P t × (after ≡ before ++ t)

put_more : (p q : List ℕ) (o x : List ℕ) → p ≡ o ++ x → p ++ q ≡ o ++ (x ++ q)
put_more p q o x e = ap (λ z. z ++ q) e ∙ append_assoc o x q

pub put_both_is : (vs : List Variable) (v w : VarSet) (o o1 o2 o3 o4 o5 : List ℕ) → o1 ≡ o ++ codes " targets"
    → IsAppended (IsVariables vs v) o1 o2 → o3 ≡ o2 ++ codes " expressions" → IsAppended (IsVariables vs w) o3 o4
    → o5 ≡ o4 ++ codes "\n" → IsAppended (IsBoth vs v w) o o5
put_both_is vs v w o o1 o2 o3 o4 o5 e1 (a, h, e2) e3 (b, k, e4) e5 = (
  codes " targets" ++ a ++ codes " expressions" ++ b ++ codes "\n",
  (a, b, h, k, refl),
  e5 ∙ put_more o4 (codes "\n") o (codes " targets" ++ a ++ codes " expressions" ++ b)
      (e4 ∙ put_more o3 b o (codes " targets" ++ a ++ codes " expressions")
      (e3 ∙ put_more o2 (codes " expressions") o (codes " targets" ++ a) (e2 ∙ put_more o1 a o (codes " targets") e1))),
)

as_sets : (vs : List Variable) (v v' w w' : VarSet) (o o1 : List ℕ) → v ≡ v' → w ≡ w' → IsAppended (IsBoth vs v w) o o1
    → IsAppended (IsBoth vs v' w') o o1
as_sets vs v v' w w' o o1 e f h =
    subst (λ z. IsAppended (IsBoth vs z w') o o1) e (subst (λ z. IsAppended (IsBoth vs v z) o o1) f h)

module _ (vs : List Variable) (s : Sets) where
  pub put_line_is : (l : SetsLine) (v w : VarSet) (o o1 o2 : List ℕ) → v ≡ targets_of s l.statement
      → w ≡ expressions_of s l.statement → o1 ≡ o ++ head_by l.at l.part → IsAppended (IsBoth vs v w) o1 o2
      → IsAppended (IsLine vs s l) o o2
  put_line_is l v w o o1 o2 ev ew e h = by (as_sets vs v _ w _ o1 o2 ev ew h)
    where
      by : IsAppended (IsBoth vs (targets_of s l.statement) (expressions_of s l.statement)) o1 o2
          → IsAppended (IsLine vs s l) o o2
      by (t, k, f) = (head_by l.at l.part ++ t, (t, k, refl), f ∙ put_more o1 t o (head_by l.at l.part) e)

  pub put_implicit_is : (b : ℕ) (k : Block) (v w : VarSet) (o o1 o2 o3 : List ℕ) → v ≡ implicit_targets_of s b
      → w ≡ implicit_expressions_of s b → o1 ≡ o ++ codes "implicit " → o2 ≡ o1 ++ k.name
      → IsAppended (IsBoth vs v w) o2 o3
      → IsAppended (IsImplicit vs s b k) o o3
  put_implicit_is b k v w o o1 o2 o3 ev ew e1 e2 h = by (as_sets vs v _ w _ o2 o3 ev ew h)
    where
      by : IsAppended (IsBoth vs (implicit_targets_of s b) (implicit_expressions_of s b)) o2 o3
          → IsAppended (IsImplicit vs s b k) o o3
      by (t, g, f) = (
        codes "implicit " ++ k.name ++ t,
        (t, g, refl),
        f
            ∙ put_more o2 t o (codes "implicit " ++ k.name) (e2 ∙ put_more o1 k.name o (codes "implicit ") e1),
      )

  nothing_more : (o : List ℕ) → o ≡ o ++ []
  nothing_more [] = refl
  nothing_more (x ∷ xs) = ap (λ q. x ∷ q) (nothing_more xs)

  pub put_no_block : (ks : List Block) (b : ℕ) (o : List ℕ) → b ≡ 0 → IsAppended (IsOfBlock vs s ks b) o o
  put_no_block ks b o e = subst (λ n. IsAppended (IsOfBlock vs s ks n) o o) (sym e) ([], refl, nothing_more o)

  pub put_block_is : (ks : List Block) (b : ℕ) (k : Block) (o o1 : List ℕ) → b ≢ 0 → slice_get ks b ≡ Some k
      → IsAppended (IsImplicit vs s b k) o o1 → IsAppended (IsOfBlock vs s ks b) o o1
  put_block_is ks zero k o o1 n e h = absurd (n refl)
  put_block_is ks (suc b) k o o1 n e (t, h, f) = (t, (k, e, h), f)

  pub put_line_at : (ls : List SetsLine) (i : ℕ) (l : SetsLine) (o o1 : List ℕ) → slice_get ls i ≡ Some l
      → IsAppended (IsLine vs s l) o o1 → IsAppended (IsLineAt vs s ls i) o o1
  put_line_at ls i l o o1 e (t, h, f) = (t, (l, e, h), f)

-- what stands at an index
pub at_default : {X : Type 0} (xs : List X) (i : ℕ) (d : X) → i < length xs → slice_get xs i ≡ Some (get_or xs i d)
at_default [] i d low = absurd (omega arith)
at_default (y ∷ ys) zero d low = refl
at_default (y ∷ ys) (suc i) d low = at_default ys i d (omega arith)

pub put_sets_is : (p : Program) (s : Sets) (vs : List Variable) (ks : List Block) (n : ℕ) (ls : List SetsLine)
    (o o1 o2 : List ℕ) → vs ≡ p.variables → ks ≡ p.blocks → n ≡ length p.blocks → o ≡ []
    → IsInOrder line_cmp (tree_lines p) ls → IsAppended (Joined (IsOfBlock vs s ks) n) o o1
    → IsAppended (Joined (IsLineAt vs s ls) (length ls)) o1 o2 → IsSetsText p s o2
put_sets_is p s vs ks n ls o o1 o2 ev ek en eo up h k =
    by (subst (λ m. IsAppended (Joined (IsOfBlock p.variables s p.blocks) m) o o1) en
    (subst (λ z. IsAppended (Joined (IsOfBlock p.variables s z) n) o o1) ek
    (subst (λ z. IsAppended (Joined (IsOfBlock z s ks) n) o o1) ev h)))
    (subst (λ z. IsAppended (Joined (IsLineAt z s ls) (length ls)) o1 o2) ev k)
  where
    by : IsAppended (Joined (IsOfBlock p.variables s p.blocks) (length p.blocks)) o o1
        → IsAppended (Joined (IsLineAt p.variables s ls) (length ls)) o1 o2 → IsSetsText p s o2
    by (a, x, e) (b, y, f) = (ls, up, a, b, x, y, f ∙ ap (λ q. q ++ b) (e ∙ ap (λ q. q ++ a) eo))

-- what is written, if memory was not refused
pub finished : {T E K : Type 0} {written : T} (r : Result T E) (P : T → Type 0) → OnOk r K
    → IfOk r (λ x. x ≡ written) → (K → P written) → IfOk r P
finished (Ok x) P kept is h = subst P (sym is) (h kept)
finished (Err e) P kept is h = tt
