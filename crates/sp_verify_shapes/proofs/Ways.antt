-- Where V1 is kept, ways stay within the code, and each instruction lies in one area alone.
use Rattle.std.proofs.Common.{◌≡◌, ◌⊎◌, ◌≢◌, inl, inr, ⊎_elim, refl, ap, sym, ◌∙◌, subst, ℕ, zero, suc, ◌+◌, ◌<◌, ◌≤◌}
use Rattle.std.proofs.Common.{List, length, Option, Some, None, Bool, true, false, arith}
use Rattle.std.specs.Prelude.{nat_lt}
use Rattle.std.proofs.lemmas.Bool.{cases_eq}
use Rattle.std.proofs.lemmas.Option.{none-some}
use Rattle.sp_code.specs.declared.instr.Instr.{Instr}
use Rattle.sp_code.specs.declared.instr.Instr.TheVariants as i
use Rattle.sp_code.specs.declared.code.Parts.{Parts}
use Rattle.sp_verify_rules.specs.Areas.{Area, Body, Child, instr_at, table_named, table_at, child_of, entry}
use Rattle.sp_verify_rules.specs.Areas.{entry_of_child}
use Rattle.sp_verify_rules.specs.Areas.{entry_of_layout}
use Rattle.sp_verify_rules.specs.Shapes.{Shape, instr_shapes}
use Rattle.sp_verify_rules.specs.Reach.{IsMember, IsArea, LeadsInSteps, BringsShapes, LeadsWith, nexts}
use Rattle.sp_verify_rules.specs.NameRules.{LiesIn, NotThere, InTwo, names_there}
use Rattle.sp_verify_rules.specs.Rules.{ArrivesAt}
use Rattle.sp_verify_areas.specs.Only.{LiesOnlyIn}
use Rattle.sp_verify_areas.proofs.OwnerClosure.{layout_in}
use Rattle.sp_verify_shapes.specs.Search.{KeepsV1}
use Rattle.sp_verify_shapes.proofs.Forms.{leads_in}

-- ---- areas are the same or not

same_area : (a b : Area) → (a ≡ b) ⊎ (a ≢ b)
same_area (Body b) (Body d) = ⊎_elim (λ e. inl (ap Body e)) (λ f. inr (λ s. f (cc s))) (cases_eq b d)
same_area (Body b) (Child d q j) = inr (λ s. cc s)
same_area (Child a p k) (Body d) = inr (λ s. cc s)
same_area (Child a p k) (Child d q j) = go (same_area a d) (cases_eq p q) (cases_eq k j)
  where
    go : (a ≡ d) ⊎ (a ≢ d) → (p ≡ q) ⊎ (p ≢ q) → (k ≡ j) ⊎ (k ≢ j)
        → (Child a p k ≡ Child d q j) ⊎ (Child a p k ≢ Child d q j)
    go (inl e) (inl f) (inl g) = inl (λ z. Child (e z) (f z) (g z))
    go (inr e) f g = inr (λ s. e (cc s))
    go (inl e) (inr f) g = inr (λ s. f (cc s))
    go (inl e) (inl f) (inr g) = inr (λ s. g (cc s))

-- ---- ways

pub goes_on : (c : Parts) (n p q r : ℕ) → LeadsInSteps c n p q → IsMember r (nexts q (instr_at c q))
    → LeadsInSteps c (suc n) p r
goes_on c zero p q r e j = (r, subst (λ z. IsMember r (nexts z (instr_at c z))) (sym e) j, refl)
goes_on c (suc n) p q r g j = (g.0, g.1, goes_on c n g.0 q r g.2 j)

pub lies_on : (c : Parts) (a : Area) (p q : ℕ) (ss ts : List Shape) → LiesIn c p a
    → LeadsWith (instr_shapes c a (instr_at c p) p ss) q ts → LiesIn c q a
lies_on c a p q ss ts h k = (
  h.0,
  record {
    steps = suc h.1.steps;
    way = goes_on c h.1.steps (entry c a) p q h.1.way
        (leads_in c a p ss q ts (instr_at c p) k);
  },
)

pub lies : (c : Parts) (a : Area) (n p : ℕ) (ss : List Shape) → ArrivesAt c a n p ss → LiesIn c p a
lies c a zero p ss (there, (begins, _)) = (there, record { steps = 0; way = sym begins })
lies c a (suc n) q ts (there, inl h) = lies c a n q ts (there, h)
lies c a (suc n) q ts (there, inr (p, ss, h, whole, leads)) = lies_on c a p q ss ts (lies c a n p ss (there, h)) leads

pub way_in : (c : Parts) (a : Area) (n p : ℕ) (ss : List Shape) → IsArea c a → BringsShapes c a n p ss → LiesIn c p a
way_in c a zero p ss there h = (there, record { steps = 0; way = sym h.0 })
way_in c a (suc n) q ts there (p, ss, h, leads) = lies_on c a p q ss ts (way_in c a n p ss there h) leads

-- ---- within the code

is_below : (m n : ℕ) → (n ≤ m → ⊥) → m < n
is_below m n f = go (nat_lt m n) refl
  where
    go : (t : Bool) → nat_lt m n ≡ t → m < n
    go true e = Prim.grind (arith, e)
    go false e = absurd (f (Prim.grind (arith, e)))

next_within : (c : Parts) (p q : ℕ) (o : Option Instr) → names_there c o ≡ true → IsMember q (nexts p o)
    → (q < length c.instrs) ⊎ (q ≡ p + 1)
next_within c p q None e h = absurd h
next_within c p q (Some (i.Jump to)) e (inl s) = inl (Prim.grind (arith, e, s))
next_within c p q (Some (i.Jump to)) e (inr h) = absurd h
next_within c p q (Some (i.Jumpf to)) e (inl s) = inr s
next_within c p q (Some (i.Jumpf to)) e (inr (inl s)) = inl (Prim.grind (arith, e, s))
next_within c p q (Some (i.Jumpf to)) e (inr (inr h)) = absurd h
next_within c p q (Some (i.Casej v to)) e (inl s) = inr s
next_within c p q (Some (i.Casej v to)) e (inr (inl s)) = inl (Prim.grind (arith, e, s))
next_within c p q (Some (i.Casej v to)) e (inr (inr h)) = absurd h
next_within c p q (Some (i.Forup var to)) e (inl s) = inr s
next_within c p q (Some (i.Forup var to)) e (inr (inl s)) = inl (Prim.grind (arith, e, s))
next_within c p q (Some (i.Forup var to)) e (inr (inr h)) = absurd h
next_within c p q (Some (i.Fordown var to)) e (inl s) = inr s
next_within c p q (Some (i.Fordown var to)) e (inr (inl s)) = inl (Prim.grind (arith, e, s))
next_within c p q (Some (i.Fordown var to)) e (inr (inr h)) = absurd h
next_within c p q (Some (i.Nextup var to)) e (inl s) = inl (Prim.grind (arith, e, s))
next_within c p q (Some (i.Nextup var to)) e (inr (inl s)) = inr s
next_within c p q (Some (i.Nextup var to)) e (inr (inr h)) = absurd h
next_within c p q (Some (i.Nextdown var to)) e (inl s) = inl (Prim.grind (arith, e, s))
next_within c p q (Some (i.Nextdown var to)) e (inr (inl s)) = inr s
next_within c p q (Some (i.Nextdown var to)) e (inr (inr h)) = absurd h
next_within c p q (Some i.Return) e h = absurd h
next_within c p q (Some i.End) e h = absurd h
next_within c p q _ e (inl s) = inr s
next_within c p q _ e (inr h) = absurd h

module _ (c : Parts) (v1 : KeepsV1 c) where
  pub one_area : (p : ℕ) (a b : Area) → LiesIn c p a → LiesIn c p b → a ≡ b
  one_area p a b x y = ⊎_elim (λ e. e) (λ (d : a ≢ b). absurd (v1 p (InTwo (a, x, inl (b, y, d))))) (same_area a b)

  pub only_in : (p : ℕ) (a : Area) → LiesIn c p a → LiesOnlyIn c p a
  only_in p a x = (x, λ b y. one_area p b a y x)

  there : (p : ℕ) → names_there c (instr_at c p) ≡ true
  there p = go (names_there c (instr_at c p)) refl
    where
      go : (t : Bool) → names_there c (instr_at c p) ≡ t → names_there c (instr_at c p) ≡ true
      go true e = e
      go false e = absurd (v1 p (NotThere (inl e)))

  entry_within : (a : Area) → IsArea c a → entry c a < length c.instrs
  entry_within (Body b) h =
      let z = layout_in c.layouts b h.0 h.1 in
      is_below (entry c (Body b)) (length c.instrs)
      (λ past. v1 (entry c (Body b))
      (NotThere (inr (record { past = past; of = inl (h.0, (z.0, z.1), sym (ap entry_of_layout h.1)) }))))
  entry_within (Child a p k) (_, _, (ch, is_child)) = go (table_named (instr_at c p)) refl
    where
      go : (o : Option ℕ) → table_named (instr_at c p) ≡ o → entry c (Child a p k) < length c.instrs
      go None e = absurd (none-some ch (sym (ap (λ (z : Option ℕ). child_of (table_at c.forks z) k) e) ∙ is_child))
      go (Some t) e =
          is_below (entry c (Child a p k)) (length c.instrs)
          (λ past. v1 (entry c (Child a p k))
          (NotThere (inr (record {
            past = past;
            of = inr (
              t,
              k,
              ch,
              sym (ap (λ (z : Option ℕ). child_of (table_at c.forks z) k) e)
                  ∙ is_child,
              sym (ap entry_of_child is_child),
            );
          }))))

  -- from within the code one goes on within the code
  along : (a : Area) (n p q : ℕ) → IsArea c a → LiesIn c p a → p < length c.instrs → LeadsInSteps c n p q
      → q < length c.instrs
  along a zero p q h k l e = subst (λ z. z < length c.instrs) e l
  along a (suc n) p q h k l (r, j, g) = along a n r q h on (go (next_within c p r (instr_at c p) (there p) j)) g
    where
      on : LiesIn c r a
      on = (h, record { steps = suc k.1.steps; way = goes_on c k.1.steps (entry c a) p r k.1.way j })

      go : (r < length c.instrs) ⊎ (r ≡ p + 1) → r < length c.instrs
      go (inl m) = m
      go (inr s) =
          is_below r (length c.instrs)
          (λ past. v1 p (InTwo (
            a,
            k,
            inr
                (subst (λ z. IsMember z (nexts p (instr_at c p))) s j, subst (λ z. length c.instrs ≤ z) s past),
          )))

  pub within : (p : ℕ) (a : Area) → LiesIn c p a → p < length c.instrs
  within p a h = along a h.1.steps (entry c a) p h.0 (h.0, record { steps = 0; way = refl }) (entry_within a h.0)
      h.1.way
