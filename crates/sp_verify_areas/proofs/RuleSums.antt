-- Where rule V1 is broken, a pass finds something there or at a lower instruction; and what it finds breaks the rule.
-- So the least of what the passes find is the least instruction at which the rule is broken.
use Rattle.std.proofs.Common.{◌≡◌, ◌⊎◌, inl, inr, ⊎_elim, refl, ap, sym, ◌∙◌, subst, ℕ, zero, suc, ◌+◌, ◌<◌, ◌≤◌, List}
use Rattle.std.proofs.Common.{length, Option, Some, None, Bool, arith}
use Rattle.std.specs.Prelude.{slice_get, nat_lt}
use Rattle.std.proofs.lemmas.Option.{slice_get_cases}
use Rattle.std.proofs.lemmas.Bool.{cases_lt, le-ltb}
use Rattle.sp_code.specs.declared.instr.Instr.{Instr}
use Rattle.sp_code.specs.declared.instr.Instr.TheVariants as i
use Rattle.sp_code.specs.declared.code.ChildTable.{ChildTable}
use Rattle.sp_code.specs.declared.code.Parts.{Parts}
use Rattle.sp_verify_rules.specs.Areas.{Area, Body, Child, instr_at, table_named, table_at, child_of, child_at, entry}
use Rattle.sp_verify_rules.specs.Areas.{entry_of_child, entry_of_layout}
use Rattle.sp_verify_rules.specs.Reach.{IsMember, IsArea, LeadsInSteps, nexts}
use Rattle.sp_verify_rules.specs.NameRules.{BreaksV1, NotThere, BlocksApart, WithoutProgram, Twice, SizesDiffer}
use Rattle.sp_verify_rules.specs.NameRules.{TableUnnamed}
use Rattle.sp_verify_rules.specs.NameRules.{TableIndexed, TableUnknown, LevelDiffers, InTwo, EndsWrong, OutOfRange}
use Rattle.sp_verify_rules.specs.NameRules.{NamedWrong}
use Rattle.sp_verify_rules.specs.NameRules.{LoopsWrong}
use Rattle.sp_verify_rules.specs.NameRules.{OrphanBlock, DeclaredTwice, Unnamed, Unknown, Shared, Misplaced, LiesIn}
use Rattle.sp_verify_rules.specs.NameRules.{names_there}
use Rattle.sp_verify_rules.specs.NameRules.{level_fits, in_range, names_well, loops_well}
use Rattle.sp_verify_areas.specs.declared.owners.Owner.{Owner}
use Rattle.sp_verify_areas.specs.declared.owners.Owner.TheVariants as owner
use Rattle.sp_verify_areas.specs.Alone.{BreaksAlone}
use Rattle.sp_verify_areas.specs.LeastPlaces.{IsLeast, earlier_of}
use Rattle.sp_verify_areas.specs.WrongNames.{MisnamesOnly}
use Rattle.sp_verify_areas.specs.Only.{LiesOnlyIn, MisplacedOnly}
use Rattle.sp_verify_areas.specs.Unknown.{UnknownBy, UnknownOnly}
use Rattle.sp_verify_areas.specs.Owners.{IsShared, Owns, AreOwners}
use Rattle.sp_verify_areas.specs.Placement.{IsMisplaced}
use Rattle.sp_verify_areas.specs.Sums.{SomePassFinds}
use Rattle.sp_verify_areas.proofs.Leasts.{both}
use Rattle.sp_verify_areas.proofs.OwnerClosure.{layout_in, name_of, named_within, step_within}

-- ---- least numbers

-- what holds at the same numbers or at lower ones has the same least one
pub lower : (P Q : ℕ → Type 0) (o : Option ℕ) → ((p : ℕ) → P p → Q p) → ((p : ℕ) → Q p → (q : ℕ) × (q ≤ p) × P q)
    → IsLeast P o → IsLeast Q o
lower P Q None up down h = λ p q. let r = down p q in h r.0 r.2
lower P Q (Some n) up down h = (up n h.0, λ p l q. let r = down p q in let s = r.1 in h.1 r.0 (omega (arith, l, s)) r.2)

-- ---- the last step of a way

module _ (c : Parts) where
  last_step : (n p q : ℕ) → LeadsInSteps c n p q → (p ≡ q)
      ⊎ ((m r : ℕ) × LeadsInSteps c m p r × IsMember q (nexts r (instr_at c r)))
  last_step zero p q g = inl g
  last_step (suc n) p q (next, leads, rest) = ⊎_elim
      (λ (e : next ≡ q). inr (0, p, refl, subst (λ z. IsMember z (nexts p (instr_at c p))) e leads))
      (λ (z : (m r : ℕ) × LeadsInSteps c m next r × IsMember q (nexts r (instr_at c r))).
      let (m, r, way, last) = z in inr (suc m, r, (next, leads, way), last))
      (last_step n next q rest)

  -- it leads to the next instruction, or to one that the instruction names
  target : (r q : ℕ) (o : Option Instr) → IsMember q (nexts r o) → (q ≡ r + 1) ⊎ (names_there c o ≡ nat_lt q
      (length c.instrs))
  target r q None z = absurd z
  target r q (Some (i.Jump to)) z = ⊎_elim (λ (e : q ≡ to). inr (ap (λ y. nat_lt y (length c.instrs)) (sym e)))
      (λ b. absurd b) z
  target r q (Some (i.Jumpf to)) z = ⊎_elim (λ e. inl e) (λ y. ⊎_elim (λ (e : q ≡ to). inr
      (ap (λ y. nat_lt y (length c.instrs)) (sym e))) (λ b. absurd b) y) z
  target r q (Some (i.Casej v to)) z = ⊎_elim (λ e. inl e) (λ y. ⊎_elim (λ (e : q ≡ to). inr
      (ap (λ y. nat_lt y (length c.instrs)) (sym e))) (λ b. absurd b) y) z
  target r q (Some (i.Forup v to)) z = ⊎_elim (λ e. inl e) (λ y. ⊎_elim (λ (e : q ≡ to). inr
      (ap (λ y. nat_lt y (length c.instrs)) (sym e))) (λ b. absurd b) y) z
  target r q (Some (i.Fordown v to)) z = ⊎_elim (λ e. inl e) (λ y. ⊎_elim (λ (e : q ≡ to). inr
      (ap (λ y. nat_lt y (length c.instrs)) (sym e))) (λ b. absurd b) y) z
  target r q (Some (i.Nextup v to)) z = ⊎_elim (λ (e : q ≡ to). inr (ap (λ y. nat_lt y (length c.instrs)) (sym e)))
      (λ y. ⊎_elim (λ e. inl e) (λ b. absurd b) y) z
  target r q (Some (i.Nextdown v to)) z = ⊎_elim (λ (e : q ≡ to). inr (ap (λ y. nat_lt y (length c.instrs)) (sym e)))
      (λ y. ⊎_elim (λ e. inl e) (λ b. absurd b) y) z
  target r q (Some i.Return) z = absurd z
  target r q (Some i.End) z = absurd z
  target r q (Some o) z = ⊎_elim (λ e. inl e) (λ b. absurd b) z

  -- ---- what breaks the rule

  pub breaks : (p : ℕ) → SomePassFinds c p → BreaksV1 c p
  breaks p (inl (inl (inl (inl h)))) = NotThere h
  breaks p (inl (inl (inl (inr (inl h))))) = WithoutProgram h
  breaks p (inl (inl (inl (inr (inr (inl h)))))) = SizesDiffer h
  breaks p (inl (inl (inl (inr (inr (inr h)))))) = TableIndexed h
  breaks p (inl (inl (inr h))) = BlocksApart h
  breaks p (inl (inr (inl h))) = Twice h
  breaks p (inl (inr (inr h))) = TableUnnamed h
  breaks p (inr (inl (inl (q, u)))) =
      let (variable, is_handed, (is_real, is_absent)) = u.unknown in
      TableUnknown (record {
        instruction = q;
        area = u.area;
        table = u.table;
        number = u.number;
        child = u.child;
        variable = variable;
        names_table = u.names_table;
        lies_there = u.lies_only_there.0;
        is_child = u.is_child;
        begins = u.begins;
        is_handed = is_handed;
        is_real = is_real;
        is_absent = is_absent;
      })
  breaks p (inr (inl (inr (inl (a, lies, f))))) = LevelDiffers (a, lies.0, f)
  breaks p (inr (inl (inr (inr (inl (a, lies, f)))))) = OutOfRange (a, lies.0, f)
  breaks p (inr (inl (inr (inr (inr (inl (a, lies, f))))))) = NamedWrong (a, lies.0, f)
  breaks p (inr (inl (inr (inr (inr (inr (a, lies, f))))))) = LoopsWrong (a, lies.0, f)
  breaks p (inr (inr (l, inl h))) = InTwo h
  breaks p (inr (inr (l, inr h))) = EndsWrong h

  -- ---- what is broken is found, there or before

  abbrev FoundBy : ℕ → Type 0
  FoundBy p = (q : ℕ) × (q ≤ p) × SomePassFinds c q

  here : (p : ℕ) → SomePassFinds c p → FoundBy p
  here p h = (p, omega arith, h)

  alone : (p : ℕ) → BreaksAlone c p → FoundBy p
  alone p h = here p (inl (inl (inl h)))

  placed : (p : ℕ) → IsMisplaced c p → FoundBy p
  placed p h = here p (inr (inr h))

  -- an area begins past the code
  at_entry : (a : Area) (p : ℕ) → IsArea c a → length c.instrs ≤ p → entry c a ≡ p → FoundBy p
  at_entry (Body b) p (l, e) h s =
      let j = layout_in c.layouts b l e in
      alone p (inl (inr (record { past = h; of = inl (l, (j.0, j.1), sym (ap entry_of_layout e) ∙ s) })))
  at_entry (Child a q k) p (ia, pa, (ch, e)) h s =
      let n = name_of (table_named (instr_at c q)) k c.forks ch e in
      alone p (inl (inr (record {
        past = h;
        of = inr (
          n.0,
          k,
          ch,
          sym (ap (λ (z : Option ℕ). child_of
              (table_at c.forks z) k) n.1) ∙ e,
          sym (ap entry_of_child e) ∙ s,
        );
      })))

  -- a step leads there
  by_step : (a : Area) (p m r : ℕ) → IsArea c a → length c.instrs ≤ p → LeadsInSteps c m (entry c a) r
      → IsMember p (nexts r (instr_at c r)) → FoundBy p
  by_step a p m r ia h g s = ⊎_elim on to (target r p (instr_at c r) s)
    where
      inside : r < length c.instrs
      inside = step_within c r p s

      on : p ≡ r + 1 → FoundBy p
      on e = (
        r,
        omega (arith, e),
        inr (inr (
          inside,
          inl (
            a,
            (ia, record { steps = m; way = g }),
            inr
                (subst (λ z. IsMember z (nexts r (instr_at c r))) e s, omega (arith, h, e)),
          ),
        )),
      )

      to : names_there c (instr_at c r) ≡ nat_lt p (length c.instrs) → FoundBy p
      to e = (
        r,
        (let l = inside in omega (arith, l, h)),
        inl
            (inl (inl (inl (inl (e ∙ le-ltb p (length c.instrs) h))))),
      )

  past : (a : Area) (p : ℕ) → LiesIn c p a → length c.instrs ≤ p → FoundBy p
  past a p (ia, w) h = ⊎_elim (at_entry a p ia h)
      (λ (z : (m r : ℕ) × LeadsInSteps c m (entry c a) r × IsMember p (nexts r (instr_at c r))).
      let (m, r, way, last) = z in by_step a p m r ia h way last)
      (last_step w.steps (entry c a) p w.way)

  shared : (p : ℕ) → Shared c p → FoundBy p
  shared p h = ⊎_elim (λ l. placed p (l, inl h)) (past h.0 p h.1) (cases_lt p (length c.instrs))

  module _ (os : List Owner) (are : AreOwners c os) where
    -- an instruction lies in one area alone, or in two
    by_owner : (p : ℕ) (a : Area) (o : Owner) → Owns c p o → LiesIn c p a → LiesOnlyIn c p a ⊎ IsShared c p
    by_owner p a owner.Nobody h lies = absurd (h a lies)
    by_owner p a (owner.Block b) h lies = inl (lies, λ d k. h.only d k ∙ sym (h.only a lies))
    by_owner p a (owner.Child q k) h lies = inl (lies, λ d k. h.only d k ∙ sym (h.only a lies))
    by_owner p a owner.Several h lies = inr h

    decide : (p : ℕ) (a : Area) → p < length c.instrs → LiesIn c p a → LiesOnlyIn c p a ⊎ IsShared c p
    decide p a l lies = ⊎_elim
        (λ (z : (x : Owner) × (p < length os) × (slice_get os p ≡ Some x) × _). by_owner p a z.0 (are.1 p z.0 z.2) lies)
        (λ z. absurd (let m = are.0 in let n = z.0 in omega (arith, l, m, n)))
        (slice_get_cases os p).1

    two : (p : ℕ) → IsShared c p → Shared c p
    two p h = (h.first, h.lies, inl (h.second, h.too, h.apart))

    misplaced : (well : Area → Option Instr → Bool) → ((q : ℕ) → MisplacedOnly c well q → SomePassFinds c q) → (p : ℕ)
        → Misplaced c well p → FoundBy p
    misplaced well found p (a, lies, f) = ⊎_elim
        (λ l. ⊎_elim (λ o. here p (found p (a, o, f))) (λ s. shared p (two p s)) (decide p a l lies))
        (past a p lies)
        (cases_lt p (length c.instrs))

    -- the children of an instruction of two areas begin in two
    children : (q k p : ℕ) (ch : ChildTable) → child_at c q k ≡ Some ch → ch.entry ≡ p → IsShared c q → Shared c p
    children q k p ch e at h = (
      Child h.first q k,
      lies h.first h.lies,
      inl (
        Child h.second q k,
        lies h.second h.too,
        λ (s : Child h.first q k ≡ Child h.second q k). h.apart (cc s),
      ),
    )
      where
        lies : (a : Area) → LiesIn c q a → LiesIn c p (Child a q k)
        lies a l = ((l.0, l.1, (ch, e)), record { steps = 0; way = ap entry_of_child e ∙ at })

    unknown : (p : ℕ) → Unknown c p → FoundBy p
    unknown p u = ⊎_elim (λ only. here p (inr (inl (inl (u.instruction, by_one only)))))
        (λ s. shared p (children u.instruction u.number p u.child there u.begins s))
        (decide u.instruction u.area (named_within c u.table u.instruction u.names_table) u.lies_there)
      where
        there : child_at c u.instruction u.number ≡ Some u.child
        there = ap (λ (z : Option ℕ). child_of (table_at c.forks z) u.number) u.names_table ∙ u.is_child

        by_one : LiesOnlyIn c u.instruction u.area → UnknownBy c u.instruction p
        by_one only = record {
          area = u.area;
          table = u.table;
          number = u.number;
          child = u.child;
          names_table = u.names_table;
          lies_only_there = only;
          is_child = u.is_child;
          begins = u.begins;
          unknown = (u.variable, u.is_handed, (u.is_real, u.is_absent));
        }

    pub found : (p : ℕ) → BreaksV1 c p → FoundBy p
    found p (NotThere h) = alone p (inl h)
    found p (BlocksApart h) = here p (inl (inl (inr h)))
    found p (WithoutProgram h) = alone p (inr (inl h))
    found p (Twice h) = here p (inl (inr (inl h)))
    found p (SizesDiffer h) = alone p (inr (inr (inl h)))
    found p (TableUnnamed h) = here p (inl (inr (inr h)))
    found p (TableIndexed h) = alone p (inr (inr (inr h)))
    found p (TableUnknown h) = unknown p h
    found p (LevelDiffers h) = misplaced (level_fits c) (λ q z. inr (inl (inr (inl z)))) p h
    found p (InTwo h) = shared p h
    found p (EndsWrong h) = ⊎_elim (λ l. placed p (l, inr h)) (past h.0 p h.1) (cases_lt p (length c.instrs))
    found p (OutOfRange h) = misplaced (in_range c) (λ q z. inr (inl (inr (inr (inl z))))) p h
    found p (NamedWrong h) = misplaced (names_well c) (λ q z. inr (inl (inr (inr (inr (inl z)))))) p h
    found p (LoopsWrong h) = misplaced (loops_well c) (λ q z. inr (inl (inr (inr (inr (inr z)))))) p h

    -- the least of the passes
    pub least_of_all : (alone orphan_block twice unnamed unknown range misplaced : Option ℕ)
        → IsLeast (BreaksAlone c) alone → IsLeast (OrphanBlock c) orphan_block → IsLeast (DeclaredTwice c) twice
        → IsLeast (Unnamed c) unnamed
        → IsLeast (UnknownOnly c) unknown → IsLeast (MisnamesOnly c) range → IsLeast (IsMisplaced c) misplaced
        → IsLeast (BreaksV1 c) (earlier_of (earlier_of (earlier_of alone orphan_block) (earlier_of twice unnamed))
        (earlier_of (earlier_of unknown range)
        misplaced))
    least_of_all a h t u k r m ha hh ht hu hk hr hm =
        lower (SomePassFinds c) (BreaksV1 c)
        (earlier_of (earlier_of (earlier_of a h) (earlier_of t u)) (earlier_of (earlier_of k r) m)) breaks found
        (both (λ p. (BreaksAlone c p ⊎ OrphanBlock c p) ⊎ (DeclaredTwice c p ⊎ Unnamed c p)) (λ p. (UnknownOnly c p
        ⊎ MisnamesOnly c p) ⊎ IsMisplaced c p) (earlier_of (earlier_of a h) (earlier_of t u))
        (earlier_of (earlier_of k r) m)
        (both (λ p. BreaksAlone c p ⊎ OrphanBlock c p) (λ p. DeclaredTwice c p ⊎ Unnamed c p) (earlier_of a h)
        (earlier_of t u)
        (both (BreaksAlone c) (OrphanBlock c) a h ha hh) (both (DeclaredTwice c) (Unnamed c) t u ht hu))
        (both (λ p. UnknownOnly c p ⊎ MisnamesOnly c p) (IsMisplaced c) (earlier_of k r) m (both (UnknownOnly c)
        (MisnamesOnly c) k r hk hr) hm))
