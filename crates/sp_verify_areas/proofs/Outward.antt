-- Ways outward in a tree of homes: what a jump leaves behind, and what a list has at a level.
use Rattle.std.proofs.Common.{◌≡◌, refl, ap, sym, ◌∙◌, subst, ℕ, zero, suc, ◌+◌, ◌-◌, ◌<◌, ◌≤◌, List, [], ◌∷◌}
use Rattle.std.proofs.Common.{Some, None, arith}
use Rattle.std.specs.Prelude.{slice_get, drop}
use Rattle.std.proofs.lemmas.List.{drop-drop}
use Rattle.std.proofs.lemmas.Option.{none-some, same_Some}
use Rattle.sp_code.specs.declared.code.Layout.{Layout}
use Rattle.sp_code.specs.Memory.{Home}
use Rattle.sp_verify_areas.specs.declared.tree.Jump.{Jump}
use Rattle.sp_verify_areas.specs.declared.tree.Node.{Node}
use Rattle.sp_verify_areas.specs.Tree.{home_of, IsFrame, around_list, IsJump, IsNode, IsFrameOfHome}

pub drop_none : {T : Type 0} (xs : List T) → drop 0 xs ≡ xs
drop_none [] = refl
drop_none (x ∷ xs) = refl

pub first_left : {T : Type 0} (n : ℕ) (xs : List T) → slice_get xs n ≡ slice_get (drop n xs) 0
first_left zero [] = refl
first_left zero (x ∷ xs) = refl
first_left (suc n) [] = refl
first_left (suc n) (x ∷ xs) = first_left n xs

-- a jump from the node around, and one from where it leads
pub two_jumps : (lists : ℕ → List Home) (size : ℕ) (h : Home) (hs : List Home) (near next j : Jump)
    → IsJump lists size hs near → IsJump lists size (lists near.to) next
    → j.to ≡ next.to → j.far ≡ 1 + near.far + next.far → IsJump lists size (h ∷ hs) j
two_jumps lists size h hs near next j a b e f = record {
  within = subst (λ n. n < size) (sym e) b.within;
  lands = lands;
}
  where
    far : j.far ≡ suc (near.far + next.far)
    far = omega (arith, f)

    lands : drop j.far (h ∷ hs) ≡ lists j.to
    lands = ap (λ n. drop n (h ∷ hs)) far ∙ sym (drop-drop next.far near.far hs) ∙ ap (drop next.far) a.lands ∙ b.lands
        ∙ ap lists (sym e)

-- one level after the other: so many are left
pub drop_along : (lists : ℕ → List Home) (size left up : ℕ) (hs xs : List Home) (j : Jump) → drop up xs ≡ drop left hs
    → j.far ≤ left → IsJump lists size hs j
    → drop up xs ≡ drop (left - j.far) (lists j.to)
drop_along lists size left up hs xs j e l i =
    e ∙ ap (λ n. drop n hs) split ∙ sym (drop-drop (left - j.far) j.far hs) ∙ ap (drop (left - j.far)) i.lands
  where
    split : left ≡ j.far + (left - j.far)
    split = omega (arith, l)

module _ (ls : List Layout) (lists : ℕ → List Home) (size : ℕ) where
  -- with no level left, it is the node's own
  pub found_here : (hs xs : List Home) (up left : ℕ) (n : Node) → IsNode ls lists size hs n → drop up xs ≡ drop left hs
      → left ≡ 0 → IsFrameOfHome ls (slice_get xs up) (Some n.frame)
  found_here hs xs up left n i e z = record {
    home_is = sym at;
    frame = λ f s. subst (IsFrame ls)
        (same_Some n.frame f s) i.frame;
  }
    where
      at : slice_get xs up ≡ Some (home_of n.frame)
      at = first_left up xs
          ∙ ap (λ (ys : List Home). slice_get ys 0) (e ∙ ap (λ n. drop n hs) z ∙ drop_none hs ∙ i.stands)

  -- with levels left and nothing around, there is none
  pub found_none : (hs xs : List Home) (up left : ℕ) (n : Node) → IsNode ls lists size hs n → drop up xs ≡ drop left hs
      → 0 < left → n.around ≡ None → IsFrameOfHome ls (slice_get xs up) None
  found_none hs xs up left n i e l s = record { home_is = sym at; frame = λ f t. absurd (none-some f t) }
    where
      nothing : (k : ℕ) (h : Home) → 0 < k → drop k (h ∷ []) ≡ []
      nothing zero h l = absurd (omega (arith, l))
      nothing (suc zero) h l = refl
      nothing (suc (suc k)) h l = refl

      alone : hs ≡ home_of n.frame ∷ []
      alone = i.stands ∙ ap (λ o. home_of n.frame ∷ around_list lists o) s

      at : slice_get xs up ≡ None
      at = first_left up xs
          ∙ ap (λ (ys : List Home). slice_get ys 0) (e ∙ ap (drop left) alone ∙ nothing left (home_of n.frame) l)
