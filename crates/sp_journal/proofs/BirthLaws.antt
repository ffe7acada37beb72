-- Laws of what a nameable journal gives.
use Rattle.std.proofs.Common.{◌≡◌, ◌≢◌, ⊎_elim, ℕ, ◌+◌, ◌-◌, ◌^◌, ◌<◌, ◌≤◌, cond, List, [], ◌∷◌, ◌++◌, Some, None, refl}
use Rattle.std.proofs.Common.{sym, ap, ◌∙◌, subst, arith}
use Rattle.std.proofs.lemmas.Bool.{cases_eq, cases_lt, ne_eqb}
use Rattle.sp_journal.specs.declared.entry.Birth.{Birth}
use Rattle.sp_journal.specs.declared.entry.Opening.{Opening}
use Rattle.sp_journal.specs.declared.entry.Entry.{Entry}
use Rattle.sp_journal.specs.declared.entry.Event.{Event}
use Rattle.sp_journal.specs.declared.entry.Event.TheVariants as event
use Rattle.sp_journal.specs.Names.{Name}
use Rattle.sp_journal.specs.Births.{Births, first_births, births_after_event, births_after_entry, births_from, births}
use Rattle.sp_journal.specs.Births.{CanFollow}
use Rattle.sp_journal.specs.Births.{GivesNumbers, NameableFrom}
use Rattle.sp_journal.proofs.TextLaws.{IsSmall}
use Rattle.sp_journal.proofs.Facts.{here, between, below, above}

rest_same : (a b : ℕ × ℕ) (p q : Name) → a ∷ p ≡ b ∷ q → p ≡ q
rest_same a b p q e = cc

step_same : (a b : ℕ × ℕ) (p q : Name) → a ∷ p ≡ b ∷ q → a ≡ b
step_same a b p q e = cc

-- how process q came to be, and what follows for its name
pub record Born (s : Births) (q : ℕ) : Type 0 where
  pub birth : Birth
  pub birth_is : s.birth q ≡ Some birth
  pub named : s.name q ≡ (birth.fork, birth.child) ∷ s.name birth.parent
  pub older : birth.parent < q
  pub made : birth.fork < s.forks birth.parent
  pub small_fork : birth.fork < 2 ^ 32
  pub small_child : birth.child ≤ q

pub record Lawful (s : Births) : Type 0 where
  pub some : 0 < s.processes
  pub few : s.processes ≤ 2 ^ 32
  pub few_channels : s.channels ≤ 2 ^ 32
  pub no_birth : s.birth 0 ≡ None
  pub no_name : s.name 0 ≡ []
  pub born : (q : ℕ) → 0 < q → q < s.processes → Born s q
  pub unborn : (q : ℕ) → s.processes ≤ q → s.birth q ≡ None
  pub one_name : (q r : ℕ) → q < s.processes → r < s.processes → s.name q ≡ s.name r → q ≡ r
  pub small_names : (q : ℕ) → q < s.processes → IsSmall (s.name q)
  pub owned : (c : ℕ) → c < s.channels → (s.opening c).owner < s.processes
  pub counted : (c : ℕ) → c < s.channels → (s.opening c).nth < s.opens (s.opening c).owner
  pub small_nth : (c : ℕ) → c < s.channels → (s.opening c).nth < 2 ^ 32
  pub one_opening : (c d : ℕ) → c < s.channels → d < s.channels → s.opening c ≡ s.opening d → c ≡ d

pub lawful_start : Lawful first_births
lawful_start = record {
  some = omega arith;
  few = omega arith;
  few_channels = omega arith;
  no_birth = refl;
  no_name = refl;
  born = λ q l h. absurd (omega arith);
  unborn = λ q l. refl;
  one_name = λ q r l h e. omega arith;
  small_names = λ q l. tt;
  owned = λ c l. absurd (omega arith);
  counted = λ c l. absurd (omega arith);
  small_nth = λ c l. absurd (omega arith);
  one_opening = λ c d l h e. absurd (omega arith);
}

module _ (s : Births) (lawful : Lawful s) (p n : ℕ) (there : p < s.processes) (fits : s.processes + n ≤ 2 ^ 32)
    (fork : s.forks p < 2 ^ 32) where
  abbrev pub after : Births
  after = births_after_event s p (event.Fork n)

  pub old_name : (q : ℕ) → q < s.processes → after.name q ≡ s.name q
  old_name q l = ap (λ b. cond b ((s.forks p, q - s.processes) ∷ s.name p) (s.name q))
      (below s.processes q (s.processes + n) l)

  pub new_name : (q : ℕ) → s.processes ≤ q → q < s.processes + n
      → after.name q ≡ (s.forks p, q - s.processes) ∷ s.name p
  new_name q l h = ap (λ b. cond b ((s.forks p, q - s.processes) ∷ s.name p) (s.name q))
      (between s.processes q (s.processes + n) l h)

  abbrev pub its_birth : ℕ → Birth
  its_birth q = record { parent = p; fork = s.forks p; child = q - s.processes }

  pub old_birth : (q : ℕ) → q < s.processes → after.birth q ≡ s.birth q
  old_birth q l = ap (λ b. cond b (Some (its_birth q)) (s.birth q)) (below s.processes q (s.processes + n) l)

  pub new_birth : (q : ℕ) → s.processes ≤ q → q < s.processes + n → after.birth q ≡ Some (its_birth q)
  new_birth q l h = ap (λ b. cond b (Some (its_birth q)) (s.birth q)) (between s.processes q (s.processes + n) l h)

  more_forks : (r : ℕ) → s.forks r ≤ after.forks r
  more_forks r = ⊎_elim
      (λ (e : p ≡ r). subst (λ b. s.forks r ≤ cond b (s.forks p + 1) (s.forks r)) (sym (here p r e))
      (let f : s.forks p ≡ s.forks r = ap s.forks e in omega arith))
      (λ (e : p ≢ r). subst (λ b. s.forks r ≤ cond b (s.forks p + 1) (s.forks r)) (sym (ne_eqb p r e)) (omega arith))
      (cases_eq p r)

  one_more : s.forks p < after.forks p
  one_more = subst (λ b. s.forks p < cond b (s.forks p + 1) (s.forks p)) (sym (here p p refl)) (omega arith)

  old_born : (q : ℕ) → 0 < q → q < s.processes → Born after q
  old_born q some l =
      let b = lawful.born q some l in
      let o : b.birth.parent < s.processes = omega (arith, b.older) in
      record {
        birth = b.birth;
        birth_is = old_birth q l ∙ b.birth_is;
        named = old_name q l ∙ b.named ∙ ap (λ (x : Name). (b.birth.fork, b.birth.child) ∷ x)
            (sym (old_name b.birth.parent o));
        older = b.older;
        made = let m = more_forks b.birth.parent in let k = b.made in omega arith;
        small_fork = b.small_fork;
        small_child = b.small_child;
      }

  new_born : (q : ℕ) → s.processes ≤ q → q < s.processes + n → Born after q
  new_born q l h = record {
    birth = its_birth q;
    birth_is = new_birth q l h;
    named = new_name q l h ∙ ap (λ (x : Name). (s.forks p, q - s.processes) ∷ x) (sym (old_name p there));
    older = omega arith;
    made = one_more;
    small_fork = fork;
    small_child = omega arith;
  }

  -- a child of this fork has no name of an earlier process
  fresh : (q r : ℕ) → s.processes ≤ q → q < s.processes + n → r < s.processes → after.name q ≡ after.name r → ⊥
  fresh q r l h k e = ⊎_elim (λ (z : r < 1). root z) (λ (z : 1 ≤ r). child z) (cases_lt r 1)
    where
      same_names : (s.forks p, q - s.processes) ∷ s.name p ≡ s.name r
      same_names = sym (new_name q l h) ∙ e ∙ old_name r k

      root : r < 1 → ⊥
      root z = let i : r ≡ 0 = omega arith in let f : s.name r ≡ [] = ap s.name i ∙ lawful.no_name in cc (same_names, f)

      child : 1 ≤ r → ⊥
      child z =
          let b = lawful.born r (omega arith) k in
          let f : (s.forks p, q - s.processes) ∷ s.name p ≡ (b.birth.fork, b.birth.child) ∷ s.name b.birth.parent =
          same_names ∙ b.named in
          let g : s.name p ≡ s.name b.birth.parent = rest_same _ _ _ _ f in
          let i : s.forks p ≡ b.birth.fork = ap (λ (x : ℕ × ℕ). x.0) (step_same _ _ _ _ f) in
          let o = b.older in
          let j = lawful.one_name p b.birth.parent there (omega arith) g in
          let m : b.birth.fork < s.forks p = subst (λ x. b.birth.fork < s.forks x) (sym j) b.made in
          omega arith

  fork_lawful : Lawful after
  fork_lawful = record {
    some = let z = lawful.some in omega arith;
    few = fits;
    few_channels = lawful.few_channels;
    no_birth = old_birth 0 lawful.some ∙ lawful.no_birth;
    no_name = old_name 0 lawful.some ∙ lawful.no_name;
    born = λ q z l. ⊎_elim (λ (o : q < s.processes). old_born q z o) (λ (o : s.processes ≤ q). new_born q o l)
        (cases_lt q s.processes);
    unborn = λ q l. ap (λ b. cond b (Some (its_birth q)) (s.birth q)) (above s.processes q (s.processes + n) l)
        ∙ lawful.unborn q (omega arith);
    one_name = one_name;
    small_names = λ q l. ⊎_elim
        (λ (a : q < s.processes). subst IsSmall (sym (old_name q a)) (lawful.small_names q a))
        (λ (a : s.processes ≤ q). subst IsSmall (sym (new_name q a l)) (fork, omega arith, lawful.small_names p there))
        (cases_lt q s.processes);
    owned = λ c l. let o = lawful.owned c l in omega arith;
    counted = lawful.counted;
    small_nth = lawful.small_nth;
    one_opening = lawful.one_opening;
  }
    where
      both_new : (q r : ℕ) → s.processes ≤ q → s.processes ≤ r → q < s.processes + n → r < s.processes + n
          → after.name q ≡ after.name r → q ≡ r
      both_new q r a b l h e =
          let f : (s.forks p, q - s.processes) ∷ s.name p ≡ (s.forks p, r - s.processes) ∷ s.name p =
          sym (new_name q a l) ∙ e ∙ new_name r b h in
          let g : q - s.processes ≡ r - s.processes = ap (λ (x : ℕ × ℕ). x.1) (step_same _ _ _ _ f) in
          omega arith

      one_name : (q r : ℕ) → q < s.processes + n → r < s.processes + n → after.name q ≡ after.name r → q ≡ r
      one_name q r l h e = ⊎_elim
          (λ (a : q < s.processes). ⊎_elim
          (λ (b : r < s.processes). lawful.one_name q r a b (sym (old_name q a) ∙ e ∙ old_name r b))
          (λ (b : s.processes ≤ r). absurd (fresh r q b h a (sym e)))
          (cases_lt r s.processes))
          (λ (a : s.processes ≤ q). ⊎_elim
          (λ (b : r < s.processes). absurd (fresh q r a l b e))
          (λ (b : s.processes ≤ r). both_new q r a b l h e)
          (cases_lt r s.processes))
          (cases_lt q s.processes)

module _ (s : Births) (lawful : Lawful s) (p : ℕ) (there : p < s.processes) (fits : s.channels < 2 ^ 32)
    (small : s.opens p < 2 ^ 32) where
  abbrev pub opened : Births
  opened = births_after_event s p event.Open

  abbrev pub this : Opening
  this = record { owner = p; nth = s.opens p }

  pub old_opening : (c : ℕ) → c < s.channels → opened.opening c ≡ s.opening c
  old_opening c l = ap (λ b. cond b this (s.opening c)) (ne_eqb s.channels c (λ e. omega arith))

  pub new_opening : (c : ℕ) → s.channels ≤ c → c < s.channels + 1 → opened.opening c ≡ this
  new_opening c l h = ap (λ b. cond b this (s.opening c)) (here s.channels c (omega arith))

  more_opens : (r : ℕ) → s.opens r ≤ opened.opens r
  more_opens r = ⊎_elim
      (λ (e : p ≡ r). subst (λ b. s.opens r ≤ cond b (s.opens p + 1) (s.opens r)) (sym (here p r e))
      (let f : s.opens p ≡ s.opens r = ap s.opens e in omega arith))
      (λ (e : p ≢ r). subst (λ b. s.opens r ≤ cond b (s.opens p + 1) (s.opens r)) (sym (ne_eqb p r e)) (omega arith))
      (cases_eq p r)

  one_more_open : s.opens p < opened.opens p
  one_more_open = subst (λ b. s.opens p < cond b (s.opens p + 1) (s.opens p)) (sym (here p p refl)) (omega arith)

  at_opening : (Q : ℕ → Opening → Type 0) → ((c : ℕ) → c < s.channels → Q c (s.opening c)) → ((c : ℕ) → Q c this)
      → (c : ℕ) → c < s.channels + 1 → Q c (opened.opening c)
  at_opening Q old new c l = ⊎_elim
      (λ (o : c < s.channels). subst (Q c) (sym (old_opening c o)) (old c o))
      (λ (o : s.channels ≤ c). subst (Q c) (sym (new_opening c o l)) (new c))
      (cases_lt c s.channels)

  -- the new opening is that of no earlier channel
  new_channel : (c d : ℕ) → c < s.channels → s.channels ≤ d → d < s.channels + 1 → opened.opening c ≡ opened.opening d
      → ⊥
  new_channel c d l o h e =
      let f : s.opening c ≡ this = sym (old_opening c l) ∙ e ∙ new_opening d o h in
      let g : (s.opening c).nth ≡ s.opens p = ap (λ (x : Opening). x.nth) f in
      let i : (s.opening c).owner ≡ p = ap (λ (x : Opening). x.owner) f in
      let k : (s.opening c).nth < s.opens p = subst (λ x. (s.opening c).nth < s.opens x) i (lawful.counted c l) in
      omega arith

  open_lawful : Lawful opened
  open_lawful = record {
    some = lawful.some;
    few = lawful.few;
    few_channels = omega arith;
    no_birth = lawful.no_birth;
    no_name = lawful.no_name;
    born = λ q z l. let b = lawful.born q z l in
        record {
          birth = b.birth;
          birth_is = b.birth_is;
          named = b.named;
          older = b.older;
          made = b.made;
          small_fork = b.small_fork;
          small_child = b.small_child;
        };
    unborn = lawful.unborn;
    one_name = lawful.one_name;
    small_names = lawful.small_names;
    owned = at_opening (λ c o. o.owner < s.processes) lawful.owned (λ c. there);
    counted = at_opening (λ c o. o.nth < opened.opens o.owner)
        (λ c l. let a = lawful.counted c l in let b = more_opens (s.opening c).owner in omega arith)
        (λ c. one_more_open);
    small_nth = at_opening (λ c o. o.nth < 2 ^ 32) lawful.small_nth (λ c. small);
    one_opening = λ c d l h e. ⊎_elim
        (λ (a : c < s.channels). ⊎_elim
        (λ (b : d < s.channels). lawful.one_opening c d a b (sym (old_opening c a) ∙ e ∙ old_opening d b))
        (λ (b : s.channels ≤ d). absurd (new_channel c d a b h e))
        (cases_lt d s.channels))
        (λ (a : s.channels ≤ c). ⊎_elim
        (λ (b : d < s.channels). absurd (new_channel d c b a l (sym e)))
        (λ (b : s.channels ≤ d). omega arith)
        (cases_lt d s.channels))
        (cases_lt c s.channels);
  }

by_event : (s : Births) → Lawful s → (p : ℕ) → p < s.processes → (e : Event) → GivesNumbers s p e
    → Lawful (births_after_event s p e)
by_event s l p t (event.Fork n) g = fork_lawful s l p n t g.0 g.1
by_event s l p t event.Open g = open_lawful s l p t g.0 g.1
by_event _ l _ _ _ _ = l

pub lawful_after : (s : Births) (e : Entry) → Lawful s → CanFollow s e → Lawful (births_after_entry s e)
lawful_after s e l f = by_event s l e.process f.0 e.event f.1

pub lawful_from : (s : Births) (es : List Entry) → Lawful s → NameableFrom s es → Lawful (births_from s es)
lawful_from s [] l f = l
lawful_from s (e ∷ es) l f = lawful_from (births_after_entry s e) es (lawful_after s e l f.0) f.1

-- what a nameable journal gives is lawful
pub lawful : (es : List Entry) → NameableFrom first_births es → Lawful (births es)
lawful es f = lawful_from first_births es lawful_start f

-- the last entry
pub births_from_last : (s : Births) (es : List Entry) (e : Entry)
    → births_from s (es ++ e ∷ []) ≡ births_after_entry (births_from s es) e
births_from_last s [] e = refl
births_from_last s (x ∷ es) e = births_from_last (births_after_entry s x) es e

pub births_last : (es : List Entry) (e : Entry) → births (es ++ e ∷ []) ≡ births_after_entry (births es) e
births_last es e = births_from_last first_births es e

pub nameable_last : (s : Births) (es : List Entry) (e : Entry) → NameableFrom s es → CanFollow (births_from s es) e
    → NameableFrom s (es ++ e ∷ [])
nameable_last s [] e f g = (g, tt)
nameable_last s (x ∷ es) e f g = (f.0, nameable_last (births_after_entry s x) es e f.1 g)

module _ (s : Births) (lawful : Lawful s) (q : ℕ) (there : q < s.processes) where
  no_root : (b : Birth) → Some b ≡ s.birth q → 0 < q
  no_root b e = ⊎_elim (λ (l : q < 1). let z : q ≡ 0 = omega arith in
      let f : s.birth q ≡ None = ap s.birth z ∙ lawful.no_birth in absurd (cc (e, f))) (λ (l : 1 ≤ q). omega arith)
      (cases_lt q 1)

  same_birth : (b d : Birth) → Some b ≡ s.birth q → s.birth q ≡ Some d → d ≡ b
  same_birth b d e f = cc

  pub parent_older : (b : Birth) → Some b ≡ s.birth q → b.parent < q
  parent_older b e = let o = lawful.born q (no_root b e) there in
      subst (λ (x : Birth). x.parent < q) (same_birth b o.birth e o.birth_is) o.older

  pub name_by_birth : (b : Birth) → Some b ≡ s.birth q → s.name q ≡ (b.fork, b.child) ∷ s.name b.parent
  name_by_birth b e = let o = lawful.born q (no_root b e) there in
      subst (λ (x : Birth). s.name q ≡ (x.fork, x.child) ∷ s.name x.parent) (same_birth b o.birth e o.birth_is) o.named

  pub name_of_root : None ≡ s.birth q → s.name q ≡ []
  name_of_root e = ⊎_elim (λ (l : q < 1). let z : q ≡ 0 = omega arith in ap s.name z ∙ lawful.no_name)
      (λ (l : 1 ≤ q). let o = lawful.born q l there in let f = o.birth_is in absurd (cc (e, f))) (cases_lt q 1)

-- no entry takes a process away
pub processes_grow : (s : Births) (es : List Entry) → s.processes ≤ (births_from s es).processes
processes_grow s [] = omega arith
processes_grow s (e ∷ es) = let a = by e.event in let b = processes_grow (births_after_entry s e) es in omega arith
  where
    by : (v : Event) → s.processes ≤ (births_after_event s e.process v).processes
    by (event.Fork n) = omega arith
    by event.Open = omega arith
    by (event.Send c) = omega arith
    by (event.Receive c) = omega arith
    by event.End = omega arith
    by (event.Fault f) = omega arith
    by event.Laid = omega arith
    by event.Pause = omega arith
