-- What the passes over instructions, layouts and tables look for is what is wrong with code in itself.
use Rattle.std.proofs.Common.{◌≡◌, ◌⊎◌, inl, inr, ⊎_elim, refl, ap, sym, ◌∙◌, subst, ℕ, zero, suc, ◌≤◌, ◌==◌, List, []}
use Rattle.std.proofs.Common.{◌∷◌, length, Option, Some, None, Bool, true, false, ◌&&◌, ◌||◌, arith, eqb-true}
use Rattle.std.specs.Prelude.{slice_get, not, nat_le}
use Rattle.std.specs.BTreeMap.{BTreeMap}
use Rattle.std.specs.Option as option
use Rattle.std.proofs.lemmas.Bool.{le-leb, eq-eqb, and_from, and_parts, not-true, not_from_false, or_cases, or_left}
use Rattle.std.proofs.lemmas.Bool.{or_right}
use Rattle.std.proofs.lemmas.Option.{slice_get_within, none-some, same_Some}
use Rattle.sp_code.specs.declared.instr.Instr.{Instr}
use Rattle.sp_code.specs.declared.instr.Instr.TheVariants as i
use Rattle.sp_code.specs.declared.code.Layout.{Layout}
use Rattle.sp_code.specs.declared.code.ChildTable.{ChildTable}
use Rattle.sp_code.specs.declared.code.ForkTable.{ForkTable}
use Rattle.sp_code.specs.declared.code.Parts.{Parts}
use Rattle.sp_code.specs.Machine.{layout_of}
use Rattle.sp_verify_rules.specs.Areas.{instr_at, child_of}
use Rattle.sp_verify_areas.specs.LeastPlaces.{IsLeast, Upto, earlier_of}
use Rattle.sp_verify_rules.specs.NameRules.{Missing, NoProgram, Sized, Indexed, IsLayout, IsChild, is_some, has_sizes}
use Rattle.sp_verify_rules.specs.NameRules.{is_program}
use Rattle.sp_verify_rules.specs.NameRules.{names_there}
use Rattle.sp_verify_areas.specs.Blocks.{IsNumbered, number_of}
use Rattle.sp_verify_areas.specs.Alone.{BreaksAlone, LayoutFails, ChildFails, ChildrenFail, TableFails, AreFlags}
use Rattle.sp_verify_areas.specs.Alone.{layout_fails}
use Rattle.sp_verify_areas.specs.Alone.{child_fails, first_fails, flag_at, named_in, table_by, is_table}
use Rattle.sp_verify_areas.proofs.BlockLaws.{has_layout}
use Rattle.sp_verify_areas.proofs.Leasts.{least_of_same, both}

-- ---- tests

some_not : {T : Type 0} (o : Option T) → is_some o ≡ false → o ≡ None
some_not None e = refl
some_not (Some x) e = absurd (cc e)

-- ---- names of tables

is_the_table : (t : ℕ) (o : Option ℕ) → is_table t o ≡ true → o ≡ Some t
is_the_table t None e = absurd (cc e)
is_the_table t (Some u) e = ap Some (eqb-true u t e)

named_there : (b : Bool) (t : ℕ) (os : List Instr) → named_in b t os ≡ true → (q : ℕ) × (o : Instr)
    × (slice_get os q ≡ Some o) × (table_by b o ≡ Some t)
named_there b t [] e = absurd (cc e)
named_there b t (o ∷ os) e = go (or_cases (is_table t (table_by b o)) (named_in b t os) e) (named_there b t os)
  where
    go : (is_table t (table_by b o) ≡ true) ⊎ (named_in b t os ≡ true)
        → (named_in b t os ≡ true → (q : ℕ) × (x : Instr) × (slice_get os q ≡ Some x) × (table_by b x ≡ Some t))
        → (q : ℕ) × (x : Instr) × (slice_get (o ∷ os) q ≡ Some x) × (table_by b x ≡ Some t)
    go (inl h) on = (zero, o, refl, is_the_table t (table_by b o) h)
    go (inr h) on = let (q, x, there, names) = on h in (suc q, x, there, names)

there_named : (b : Bool) (t q : ℕ) (os : List Instr) (o : Instr) → slice_get os q ≡ Some o → table_by b o ≡ Some t
    → named_in b t os ≡ true
there_named b t q [] o e h = absurd (none-some o e)
there_named b t zero (x ∷ os) o e h =
    let s : x ≡ o = same_Some x o e in
    or_left (is_table t (table_by b x)) (named_in b t os) (ap (λ (y : Instr). is_table t (table_by b y)) s
    ∙ ap (is_table t) h ∙ eq-eqb t t refl)
there_named b t (suc q) (x ∷ os) o e h = or_right (is_table t (table_by b x)) (named_in b t os)
    (there_named b t q os o e h)

fork_is : (t : ℕ) (o : Instr) → table_by false o ≡ Some t → o ≡ i.Fork t
fork_is t (i.Fork u) e = ap i.Fork (same_Some u t e)
fork_is t o e = absurd (none-some t e)

forall_is : (t : ℕ) (o : Instr) → table_by true o ≡ Some t → o ≡ i.Forall t
forall_is t (i.Forall u) e = ap i.Forall (same_Some u t e)
forall_is t o e = absurd (none-some t e)

module _ (c : Parts) (first : BTreeMap ℕ ℕ) (numbered : IsNumbered first c.layouts) (forked foralled : List Bool)
    (forks : AreFlags false c.instrs (length c.forks) forked)
    (foralls : AreFlags true c.instrs (length c.forks) foralled) where
  -- an instruction names what is not there; there is no program; a layout is wrong; a child is
  abbrev pub Names : ℕ → Type 0
  Names p = names_there c (instr_at c p) ≡ false

  abbrev pub Program : ℕ → Type 0
  Program p = (0 ≡ p) × (not (option.is_some (number_of first 0)) ≡ true)

  abbrev pub Layouts : ℕ → Type 0
  Layouts p = Upto (LayoutFails (layout_fails (length c.instrs)) c.layouts) (length c.layouts) p

  abbrev pub Tables : ℕ → Type 0
  Tables p = Upto (TableFails (length c.instrs) forked foralled c.forks) (length c.forks) p

  has : (b : ℕ) → option.is_some (number_of first b) ≡ is_some (layout_of c.layouts b)
  has b = ap option.is_some (numbered b) ∙ has_layout 0 c.layouts b

  reached : (n e p : ℕ) → nat_le n e ≡ true → e ≡ p → n ≤ p
  reached n e p h s = Prim.grind (arith, h, s)

  -- ---- what the passes find is wrong

  from_program : (p : ℕ) → Program p → BreaksAlone c p
  from_program p h = inr (inl (inl (
    some_not (layout_of c.layouts 0) (sym (has 0)
        ∙ not-true (option.is_some (number_of first 0)) h.1),
    sym h.0,
  )))

  from_layout : (j p : ℕ) → LayoutFails (layout_fails (length c.instrs)) c.layouts j p → BreaksAlone c p
  from_layout j p (l, e, at, f) = ⊎_elim past (λ g. ⊎_elim sizes program (or_cases (not (has_sizes l)) ((l.block == 0)
      && not (is_program l)) g)) (or_cases (nat_le (length c.instrs) l.entry) (not (has_sizes l)
      || ((l.block == 0) && not (is_program l))) f)
    where
      past : nat_le (length c.instrs) l.entry ≡ true → BreaksAlone c p
      past h = inl (inr (record { past = reached (length c.instrs) l.entry p h at; of = inl (l, (j, e), at) }))

      sizes : not (has_sizes l) ≡ true → BreaksAlone c p
      sizes h = inr (inr (inl (l, (j, e), at, not-true (has_sizes l) h)))

      program : ((l.block == 0) && not (is_program l)) ≡ true → BreaksAlone c p
      program h = let b = and_parts (l.block == 0) (not (is_program l)) h in inr
          (inl (inr (l, (j, e), eqb-true l.block 0 b.0, at, not-true (is_program l) b.1)))

  child_is : (t k : ℕ) (tb : ForkTable) (ch : ChildTable) → slice_get c.forks t ≡ Some tb
      → slice_get tb.children k ≡ Some ch → IsChild c t k ch
  child_is t k tb ch e f = ap (λ (o : Option ForkTable). child_of o k) e ∙ f

  from_table : (t p : ℕ) → TableFails (length c.instrs) forked foralled c.forks t p → BreaksAlone c p
  from_table t p (tb, e, z) = ⊎_elim child alone z
    where
      child : Upto (ChildFails (child_fails (length c.instrs) (flag_at forked t)) tb.children) (length tb.children) p
          → BreaksAlone c p
      child u =
          let (ch, there, begins, fails) = u.holds in
          let is = child_is t u.item tb ch e there in
          ⊎_elim
          (λ h. inl (inr (record {
            past = reached (length c.instrs) ch.entry p h begins;
            of = inr
                (t, u.item, ch, is, begins);
          })))
          (λ h. let b = and_parts (flag_at forked t) (is_some ch.index) h in
          let (q, x, x_there, names) = named_there false t c.instrs
          (sym (forks.1 t (slice_get_within c.forks t tb e)) ∙ b.0) in
          inr (inr (inr (t, q, inl (x_there ∙ ap Some (fork_is t x names), (u.item, ch, is, begins, b.1))))))
          (or_cases (nat_le (length c.instrs) ch.entry) (flag_at forked t && is_some ch.index) fails)

      alone : ChildFails (first_fails (flag_at foralled t) (length tb.children)) tb.children 0 p → BreaksAlone c p
      alone (ch, f, at, h) =
          let b = and_parts (flag_at foralled t) (not ((length tb.children == 1) && is_some ch.index)) h in
          let (q, x, x_there, names) = named_there true t c.instrs
          (sym (foralls.1 t (slice_get_within c.forks t tb e)) ∙ b.0) in
          inr (inr (inr (
            t,
            q,
            inr (
              x_there
                  ∙ ap Some (forall_is t x names),
              (ch, tb, child_is t 0 tb ch e f, at, e, not-true ((length tb.children == 1) && is_some ch.index) b.1),
            ),
          )))

  -- ---- what is wrong is found

  to_layout : (l : Layout) (p : ℕ) → IsLayout c l → l.entry ≡ p → layout_fails (length c.instrs) l ≡ true → Layouts p
  to_layout l p (j, e) at f = record { item = j; below = slice_get_within c.layouts j l e; holds = (l, e, at, f) }

  table_there : (t k : ℕ) (ch : ChildTable) → IsChild c t k ch → (tb : ForkTable) × (slice_get c.forks t ≡ Some tb)
      × (slice_get tb.children k ≡ Some ch)
  table_there t k ch h = go (slice_get c.forks t) refl h
    where
      go : (o : Option ForkTable) → slice_get c.forks t ≡ o → child_of o k ≡ Some ch → (tb : ForkTable)
          × (slice_get c.forks t ≡ Some tb) × (slice_get tb.children k ≡ Some ch)
      go None e h = absurd (none-some ch h)
      go (Some tb) e h = (tb, e, h)

  to_table : (t p : ℕ) (tb : ForkTable) → slice_get c.forks t ≡ Some tb
      → ChildrenFail (length c.instrs) (flag_at forked t) (flag_at foralled t) tb.children p → Tables p
  to_table t p tb e h = record { item = t; below = slice_get_within c.forks t tb e; holds = (tb, e, h) }

  to_child : (t k p : ℕ) (ch : ChildTable) → IsChild c t k ch → ch.entry ≡ p
      → child_fails (length c.instrs) (flag_at forked t) ch ≡ true → Tables p
  to_child t k p ch h at f =
      let r = table_there t k ch h in
      to_table t p r.0 r.1 (inl (record {
        item = k;
        below = slice_get_within r.0.children k ch r.2;
        holds =
            (ch, r.2, at, f);
      }))

  at_least : (n e p : ℕ) → n ≤ p → e ≡ p → nat_le n e ≡ true
  at_least n e p h s = le-leb n e (subst (λ q. n ≤ q) (sym s) h)

  from_missing : (p : ℕ) → Missing c p → (Names p ⊎ Program p) ⊎ (Layouts p ⊎ Tables p)
  from_missing p (inl h) = inl (inl h)
  from_missing p (inr m) = ⊎_elim
      (λ (z : (l : Layout) × IsLayout c l × (l.entry ≡ p)).
      inr (inl (to_layout z.0 p z.1 z.2 (or_left (nat_le (length c.instrs) z.0.entry) (not (has_sizes z.0)
      || ((z.0.block == 0) && not (is_program z.0))) (at_least (length c.instrs) z.0.entry p m.past z.2)))))
      (λ (z : (t k : ℕ) × (ch : ChildTable) × IsChild c t k ch × (ch.entry ≡ p)).
      let (t, k, ch, is_child, begins) = z in
      inr (inr (to_child t k p ch is_child begins (or_left (nat_le (length c.instrs) ch.entry) (flag_at forked t
      && is_some ch.index) (at_least (length c.instrs) ch.entry p m.past begins)))))
      m.of

  no_program : (p : ℕ) → NoProgram c p → (Names p ⊎ Program p) ⊎ (Layouts p ⊎ Tables p)
  no_program p (inl (e, at)) = inl (inr (
    sym at,
    not_from_false (option.is_some (number_of first 0)) (has 0 ∙ ap is_some e),
  ))
  no_program p (inr (l, is, zero_is, at, f)) =
      inr (inl (to_layout l p is at (or_right (nat_le (length c.instrs) l.entry) (not (has_sizes l)
      || ((l.block == 0) && not (is_program l)))
      (or_right (not (has_sizes l)) ((l.block == 0)
      && not (is_program l)) (and_from (l.block == 0) (not (is_program l)) (eq-eqb l.block 0 zero_is)
      (not_from_false (is_program l) f))))))

  from_sizes : (p : ℕ) → Sized c p → (Names p ⊎ Program p) ⊎ (Layouts p ⊎ Tables p)
  from_sizes p (l, is, at, f) =
      inr (inl (to_layout l p is at (or_right (nat_le (length c.instrs) l.entry) (not (has_sizes l)
      || ((l.block == 0) && not (is_program l)))
      (or_left (not (has_sizes l)) ((l.block == 0) && not (is_program l)) (not_from_false (has_sizes l) f)))))

  flag : (b : Bool) (fs : List Bool) (t q : ℕ) (o : Instr) (tb : ForkTable) → AreFlags b c.instrs (length c.forks) fs
      → slice_get c.forks t ≡ Some tb
      → slice_get c.instrs q ≡ Some o → table_by b o ≡ Some t → flag_at fs t ≡ true
  flag b fs t q o tb are e f h = are.1 t (slice_get_within c.forks t tb e) ∙ there_named b t q c.instrs o f h

  from_index : (p : ℕ) → Indexed c p → (Names p ⊎ Program p) ⊎ (Layouts p ⊎ Tables p)
  from_index p (t, q, inl (o, (k, ch, is, at, f))) =
      let r = table_there t k ch is in
      inr (inr (to_child t k p ch is at (or_right (nat_le (length c.instrs) ch.entry) (flag_at forked t
      && is_some ch.index)
      (and_from (flag_at forked t) (is_some ch.index) (flag false forked t q (i.Fork t) r.0 forks r.1 o refl) f))))
  from_index p (t, q, inr (o, (ch, tb, is, at, e, f))) =
      let r = table_there t 0 ch is in
      let s : r.0 ≡ tb = same_Some r.0 tb (sym r.1 ∙ e) in
      let g = subst (λ (x : ForkTable). slice_get x.children 0 ≡ Some ch) s r.2 in
      inr (inr (to_table t p tb e (inr (
        ch,
        g,
        at,
        and_from (flag_at foralled t) (not ((length tb.children == 1)
            && is_some ch.index)) (flag true foralled t q (i.Forall t) tb foralls e o refl)
            (not_from_false ((length tb.children == 1) && is_some ch.index) f),
      ))))

  -- ---- both ways

  pub found : (p : ℕ) → (Names p ⊎ Program p) ⊎ (Layouts p ⊎ Tables p) → BreaksAlone c p
  found p (inl (inl h)) = inl (inl h)
  found p (inl (inr h)) = from_program p h
  found p (inr (inl u)) = from_layout u.item p u.holds
  found p (inr (inr u)) = from_table u.item p u.holds

  pub finds : (p : ℕ) → BreaksAlone c p → (Names p ⊎ Program p) ⊎ (Layouts p ⊎ Tables p)
  finds p (inl h) = from_missing p h
  finds p (inr (inl h)) = no_program p h
  finds p (inr (inr (inl h))) = from_sizes p h
  finds p (inr (inr (inr h))) = from_index p h

  -- the least of the passes is the least of what is wrong
  pub least_alone : (a b d e : Option ℕ) → IsLeast Names a → IsLeast Program b → IsLeast Layouts d → IsLeast Tables e
      → IsLeast (BreaksAlone c) (earlier_of (earlier_of a b) (earlier_of d e))
  least_alone a b d e ha hb hd he =
      least_of_same (λ p. (Names p ⊎ Program p) ⊎ (Layouts p ⊎ Tables p)) (BreaksAlone c)
      (earlier_of (earlier_of a b) (earlier_of d e)) found finds
      (both (λ p. Names p ⊎ Program p) (λ p. Layouts p
      ⊎ Tables p) (earlier_of a b) (earlier_of d e) (both Names Program a b ha hb) (both Layouts Tables d e hd he))

-- the same over what the passes are given, which are the code's lists
abbrev PassesDecide : Parts → BTreeMap ℕ ℕ → (forked foralled : List Bool) → (a b d e : Option ℕ) → List Instr
    → List Layout
    → List ForkTable → Bool → Type 0
PassesDecide c first forked foralled a b d e os ls fs t =
    IsNumbered first ls → AreFlags false os (length fs) forked → AreFlags true os (length fs) foralled
    → IsLeast (λ p. names_there c (instr_at c p) ≡ false) a → IsLeast (λ p. (0 ≡ p) × (not t ≡ true)) b
    → IsLeast (Upto (LayoutFails (layout_fails (length os)) ls) (length ls)) d
    → IsLeast (Upto (TableFails (length os) forked foralled fs) (length fs)) e
    → IsLeast (BreaksAlone c) (earlier_of (earlier_of a b) (earlier_of d e))

pub passed : (c : Parts) (first : BTreeMap ℕ ℕ) (forked foralled : List Bool) (a b d e : Option ℕ) (os : List Instr)
    (ls : List Layout) (fs : List ForkTable) (t : Bool)
    → os ≡ c.instrs → ls ≡ c.layouts → fs ≡ c.forks → t ≡ option.is_some (number_of first 0)
    → PassesDecide c first forked foralled a b d e os ls fs t
passed c first forked foralled a b d e os ls fs t eo el ef et =
    subst (λ (x : List Instr). PassesDecide c first forked foralled a b d e x ls fs t) (sym eo)
    (subst (λ (x : List Layout). PassesDecide c first forked foralled a b d e c.instrs x fs t) (sym el)
    (subst (λ (x : List ForkTable). PassesDecide c first forked foralled a b d e c.instrs c.layouts x t) (sym ef)
    (subst (λ (x : Bool). PassesDecide c first forked foralled a b d e c.instrs c.layouts c.forks x) (sym et)
    (λ n g h. least_alone c first n forked foralled g h a b d e))))
