-- A tree that grows: one more node leaves all others as they are, and steps go one after the other.
use Rattle.std.proofs.Common.{◌≡◌, ◌⊎◌, inl, inr, ⊎_elim, refl, ap, sym, ◌∙◌, subst, ℕ, zero, suc, ◌+◌, ◌<◌, ◌≤◌}
use Rattle.std.proofs.Common.{if◌then◌else◌, List, [], ◌∷◌, ◌++◌, length, Option, Some, None, Bool, true, false}
use Rattle.std.proofs.Common.{◌||◌, arith}
use Rattle.std.specs.Prelude.{slice_get, drop}
use Rattle.std.proofs.lemmas.Bool.{eq-eqb, ne_eqb}
use Rattle.std.proofs.lemmas.List.{length-append}
use Rattle.std.proofs.lemmas.Option.{slice_get_within, none-some, same_Some}
use Rattle.sp_base.proofs.Facts.{below_or_last}
use Rattle.sp_code.specs.declared.code.Layout.{Layout}
use Rattle.sp_code.specs.Memory.{Home}
use Rattle.sp_verify_areas.specs.declared.tree.Frame.{Frame}
use Rattle.sp_verify_areas.specs.declared.tree.Grown.{Grown}
use Rattle.sp_verify_areas.specs.declared.tree.Jump.{Jump}
use Rattle.sp_verify_areas.specs.declared.tree.Node.{Node}
use Rattle.sp_verify_areas.specs.Grown.{GrowthStep, EachItem, none_count}
use Rattle.sp_verify_areas.specs.Tree.{home_of, IsFrame, IsAround, around_list, IsJump, IsNode, AreLists, with_list}
use Rattle.sp_verify_areas.proofs.Outward.{drop_none}

pub at_last : (lists : ℕ → List Home) (size : ℕ) (hs : List Home) → with_list lists size hs size ≡ hs
at_last lists size hs = ap (λ (b : Bool). if b then hs else lists size) (eq-eqb size size refl)

pub before_last : (lists : ℕ → List Home) (size : ℕ) (hs : List Home) (k : ℕ) → k < size
    → with_list lists size hs k ≡ lists k
before_last lists size hs k l = ap (λ (b : Bool). if b then hs else lists k)
    (ne_eqb k size (λ (e : k ≡ size). omega (arith, e, l)))

pub get_push : {T : Type 0} (xs : List T) (x y : T) (k : ℕ) → slice_get (xs ++ x ∷ []) k ≡ Some y
    → (slice_get xs k ≡ Some y) ⊎ ((k ≡ length xs) × (x ≡ y))
get_push [] x y zero e = inr (refl, same_Some x y e)
get_push [] x y (suc k) e = absurd (none-some y e)
get_push (z ∷ xs) x y zero e = inl e
get_push (z ∷ xs) x y (suc k) e = ⊎_elim (λ h. inl h) (λ h. let s = h.0 in inr (omega (arith, s), h.1))
    (get_push xs x y k e)

module _ (ls : List Layout) (lists : ℕ → List Home) (size : ℕ) (new : List Home) where
  raise_jump : (hs : List Home) (j : Jump) → IsJump lists size hs j → IsJump (with_list lists size new) (size + 1) hs j
  raise_jump hs j i = record {
    within = (let w = i.within in omega (arith, w));
    lands = i.lands
        ∙ sym (before_last lists size new j.to i.within);
  }

  raise_around : (o : Option ℕ) → IsAround size o → IsAround (size + 1) o
      × (around_list lists o ≡ around_list (with_list lists size new) o)
  raise_around None i = (tt, refl)
  raise_around (Some m) i = (omega (arith, i), sym (before_last lists size new m i))

  -- a node stands for the same among one more
  pub raised : (hs : List Home) (n : Node) → IsNode ls lists size hs n
      → IsNode ls (with_list lists size new) (size + 1) hs n
  raised hs n i =
      let a = raise_around n.around i.around in
      record {
        frame = i.frame;
        around = a.0;
        stands = i.stands
            ∙ ap (λ (ys : List Home). home_of n.frame ∷ ys) a.1;
        jump = raise_jump hs n.jump i.jump;
        short =
            (let s = i.short in omega (arith, s));
      }

  pub node_root : (f : Frame) (n : Node) → IsFrame ls f → n.frame ≡ f → n.around ≡ None → n.jump.to ≡ size
      → n.jump.far ≡ 0 → new ≡ home_of f ∷ [] → IsNode ls (with_list lists size new) (size + 1) new n
  node_root f n i ef ea et er en = record {
    frame = subst (IsFrame ls) (sym ef) i;
    around = subst (IsAround (size + 1)) (sym ea) tt;
    stands = en ∙ ap (λ z. home_of z ∷ []) (sym ef)
        ∙ ap (λ o. home_of n.frame ∷ around_list (with_list lists size new) o) (sym ea);
    jump = record {
      within = omega (arith, et);
      lands = ap (λ k. drop k new) er ∙ drop_none new
          ∙ sym (ap (with_list lists size new) et ∙ at_last lists size new);
    };
    short = (let e = ap length en in omega (arith, e));
  }

  pub node_inner : (f : Frame) (n : Node) (m : ℕ) → IsFrame ls f → m < size → length (lists m) ≤ size → n.frame ≡ f
      → n.around ≡ Some m → IsJump lists size new n.jump → new ≡ home_of f ∷ lists m
      → IsNode ls (with_list lists size new) (size + 1) new n
  node_inner f n m i l short ef ea ij en = record {
    frame = subst (IsFrame ls) (sym ef) i;
    around = subst (IsAround (size + 1)) (sym ea) (omega (arith, l));
    stands = en ∙ ap (λ z. home_of z ∷ lists m) (sym ef)
        ∙ ap (λ (hs : List Home). home_of n.frame ∷ hs) (sym (before_last lists size new m l))
        ∙ ap (λ o. home_of n.frame ∷ around_list (with_list lists size new) o) (sym ea);
    jump = raise_jump new n.jump ij;
    short = (let e = ap length en in omega (arith, e, short));
  }

-- one more node
pub put_lists : (ls : List Layout) (lists : ℕ → List Home) (ns : List Node) (n : Node) (hs : List Home)
    → AreLists ls ns lists → IsNode ls (with_list lists (length ns) hs) (length ns + 1) hs n
    → AreLists ls (ns ++ n ∷ []) (with_list lists (length ns) hs)
put_lists ls lists ns n hs are i k m e =
    subst (λ s. IsNode ls (with_list lists (length ns) hs) s (with_list lists (length ns) hs k) m)
    (sym (length-append ns (n ∷ [])))
    (⊎_elim
    (λ h. subst (λ (xs : List Home). IsNode ls (with_list lists (length ns) hs) (length ns + 1) xs m)
    (sym (before_last lists (length ns) hs k (slice_get_within ns k m h)))
    (raised ls lists (length ns) hs (lists k) m (are k m h)))
    (λ h. subst (λ (xs : List Home). IsNode ls (with_list lists (length ns) hs) (length ns + 1) xs m)
    (sym (ap (with_list lists (length ns) hs) h.0 ∙ at_last lists (length ns) hs))
    (subst (IsNode ls (with_list lists (length ns) hs) (length ns + 1) hs) h.1 i))
    (get_push ns n m k e))

-- ---- steps

module _ (Just : Grown → Type 0) where
  pub steps_none : (g : Grown) (P : Grown → Type 0) → Just g → P g → GrowthStep Just g g P false
  steps_none g P j p = record { just = j; less = λ e. absurd (cc e); unchanged = λ e. (refl, p) }

  pub steps_as : (a b : Grown) (P Q : Grown → Type 0) (s : Bool) → (b ≡ a → P b → Q b) → GrowthStep Just a b P s
      → GrowthStep Just a b Q s
  steps_as a b P Q s f h = record {
    just = h.just;
    less = h.less;
    unchanged = λ e. let z = h.unchanged e in
        (z.0, f z.0 z.1);
  }

  steps_room : (a b : Grown) (P : Grown → Type 0) (s : Bool) → GrowthStep Just a b P s
      → none_count b.of ≤ none_count a.of
  steps_room a b P true h = let l = h.less refl in omega (arith, l)
  steps_room a b P false h = let e = ap (λ (g : Grown). none_count g.of) (h.unchanged refl).0 in omega (arith, e)

  pub steps_then : (a b d : Grown) (P Q : Grown → Type 0) (s t : Bool) → GrowthStep Just a b P s
      → GrowthStep Just b d Q t
      → GrowthStep Just a d (λ g. P g × Q g) (s || t)
  steps_then a b d P Q s t h k = record { just = k.just; less = less s t h k; unchanged = same s t h k }
    where
      less : (s t : Bool) → GrowthStep Just a b P s → GrowthStep Just b d Q t → (s || t) ≡ true
          → none_count d.of < none_count a.of
      less true t h k e = let l = h.less refl in let m = steps_room b d Q t k in omega (arith, l, m)
      less false true h k e = let l = k.less refl in let m = steps_room a b P false h in omega (arith, l, m)
      less false false h k e = absurd (cc e)

      same : (s t : Bool) → GrowthStep Just a b P s → GrowthStep Just b d Q t → (s || t) ≡ false → (d ≡ a) × (P d × Q d)
      same true t h k e = absurd (cc e)
      same false true h k e = absurd (cc e)
      same false false h k e =
          let x = h.unchanged refl in let y = k.unchanged refl in
          (y.0 ∙ x.0, (subst P (sym y.0) x.1, y.1))

  pub items_more : (P : ℕ → Grown → Type 0) (a b d : Grown) (k : ℕ) (s t : Bool) → GrowthStep Just a b (EachItem P k) s
      → GrowthStep Just b d (P k) t → GrowthStep Just a d (EachItem P (k + 1)) (s || t)
  items_more P a b d k s t h m = steps_as a d (λ g. EachItem P k g × P k g) (EachItem P (k + 1)) (s
      || t) more (steps_then a b d (EachItem P k) (P k) s t h m)
    where
      more : d ≡ a → EachItem P k d × P k d → EachItem P (k + 1) d
      more same z j l = ⊎_elim (λ (m : j < k). z.0 j m) (λ (e : j ≡ k). subst (λ i. P i d) (sym e) z.1)
          (below_or_last j k l)
