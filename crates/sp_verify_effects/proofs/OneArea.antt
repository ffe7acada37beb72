-- Each instruction lies in one area, which is known by its first instruction.
use Rattle.std.proofs.Common.{◌≡◌, inl, refl, ap, sym, ◌∙◌, subst, ℕ, ◌<◌, List, length, Option}
use Rattle.std.proofs.Common.{Some, None, arith}
use Rattle.std.specs.Prelude.{slice_get, MatchOption}
use Rattle.std.proofs.lemmas.Option.{same_Some}
use Rattle.sp_base.proofs.Facts.{item_is_not_none}
use Rattle.sp_code.specs.declared.code.Parts.{Parts}
use Rattle.sp_verify_rules.specs.Areas.{Area, Body, Child, entry, entry_of_layout, entry_of_child}
use Rattle.sp_verify_rules.specs.Reach.{IsArea}
use Rattle.sp_verify_rules.specs.NameRules.{BreaksV1, InTwo, LiesIn}
use Rattle.sp_verify_areas.specs.declared.owners.Owner.{Owner}
use Rattle.sp_verify_areas.specs.declared.owners.Owner.TheVariants as owner
use Rattle.sp_verify_areas.specs.Owners.{AreOwners, IsOnly, Owns, owner_of, entry_at}
use Rattle.sp_verify_areas.specs.Only.{LiesOnlyIn}
use Rattle.sp_verify_effects.specs.Own.{child_entry, entry_by}

module _ (c : Parts) where
  area_entry : (a : Area) → IsArea c a → entry_by c (owner_of a) ≡ Some (entry c a)
  area_entry (Body b) (l, e) = ap entry_at e ∙ ap Some (sym (ap entry_of_layout e))
  area_entry (Child a p k) (i, w, (t, e)) = ap child_entry e ∙ ap Some (sym (ap entry_of_child e))

  -- the area of an instruction, by its owner, if there is one
  abbrev pub IsAreaEntry : ℕ → Option ℕ → Type 0
  IsAreaEntry p r = MatchOption r ((a : Area) → LiesIn c p a → ⊥) (λ n. (a : Area) × LiesOnlyIn c p a × (entry c a ≡ n))

  one_found : (p : ℕ) (o : Owner) (r : Option ℕ) → IsOnly c p o → r ≡ entry_by c o → IsAreaEntry p r
  one_found p o r h e =
      let s : entry_by c o ≡ Some (entry c h.area) = ap (entry_by c) (sym h.owner_is) ∙ area_entry h.area h.lies.0 in
      subst (IsAreaEntry p) (sym (e ∙ s)) (h.area, (h.lies, h.only), refl)

  pub area_found : (p : ℕ) (o : Owner) (r : Option ℕ) → ((q : ℕ) → BreaksV1 c q → ⊥) → Owns c p o → r ≡ entry_by c o
      → IsAreaEntry p r
  area_found p owner.Nobody r kept h e = subst (IsAreaEntry p) (sym e) h
  area_found p (owner.Block b) r kept h e = one_found p (owner.Block b) r h e
  area_found p (owner.Child q k) r kept h e = one_found p (owner.Child q k) r h e
  area_found p owner.Several r kept h e = absurd (kept p (InTwo (h.first, h.lies, inl (h.second, h.too, h.apart))))

  only_entry : (p : ℕ) (o : Owner) (a : Area) → IsOnly c p o → LiesIn c p a → entry_by c o ≡ Some (entry c a)
  only_entry p o a h l = ap (entry_by c) (sym h.owner_is) ∙ area_entry h.area h.lies.0
      ∙ ap (λ z. Some (entry c z)) (sym (h.only a l))

  -- areas in which instructions of one owner lie begin at one instruction
  pub one_entry : (p q : ℕ) (a b : Area) (o : Owner) → ((x : ℕ) → BreaksV1 c x → ⊥) → Owns c p o → Owns c q o
      → LiesIn c p a → LiesIn c q b → entry c a ≡ entry c b
  one_entry p q a b owner.Nobody kept x y l m = absurd (x a l)
  one_entry p q a b (owner.Block d) kept x y l m = same_Some (entry c a) (entry c b)
      (sym (only_entry p (owner.Block d) a x l) ∙ only_entry q (owner.Block d) b y m)
  one_entry p q a b (owner.Child d k) kept x y l m = same_Some (entry c a) (entry c b)
      (sym (only_entry p (owner.Child d k) a x l) ∙ only_entry q (owner.Child d k) b y m)
  one_entry p q a b owner.Several kept x y l m = absurd (kept p (InTwo
      (x.first, x.lies, inl (x.second, x.too, x.apart))))

  pub owner_there : (os : List Owner) (p : ℕ) → AreOwners c os → p < length c.instrs → slice_get os p ≡ None → ⊥
  owner_there os p are l e = item_is_not_none os p (let m = are.0 in omega (arith, l, m)) e
