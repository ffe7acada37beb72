-- The new numbers that the code gives the entries of a witness, entry by entry.
use Rattle.std.proofs.Common.{◌≡◌, ◌≢◌, ⊎_elim, ℕ, ◌+◌, ◌-◌, ◌<◌, ◌≤◌, Bool, true, false, cond, ◌&&◌, ◌==◌, nat_lt}
use Rattle.std.proofs.Common.{nat_le, List, [], ◌∷◌, ◌++◌, append_assoc, Option, Some, unwrap_or, length, get_or, take}
use Rattle.std.proofs.Common.{drop, add-one, refl, sym, ap, ◌∙◌, arith}
use Rattle.std.proofs.lemmas.Bool.{cases_eq, ne_eqb}
use Rattle.std.proofs.lemmas.Bool.Decides.{nat_tests}
use Rattle.std.proofs.Math.Seq.{drop-cons}
use Rattle.sp_journal.specs.declared.entry.Entry.{Entry}
use Rattle.sp_journal.specs.declared.entry.Event.{Event}
use Rattle.sp_journal.specs.declared.entry.Event.TheVariants as event
use Rattle.sp_journal.specs.Births.{Births, births, births_after_entry, births_after_event, CanFollow, GivesNumbers}
use Rattle.sp_journal.proofs.Facts.{here, between}
use Rattle.sp_journal.proofs.Walk.{left_is, more_births, any_entry}
use Rattle.sp_witness.specs.TableNumbers.{Table, table_after, renumbered_entry, renumbered_entries, table_of}
use Rattle.sp_witness.specs.Passes.{CanAdd}

pub put_in : (b : Bool) (v d : ℕ) (o : Option ℕ) → unwrap_or (cond b (Some v) o) d ≡ cond b v (unwrap_or o d)
put_in true v d o = refl
put_in false v d o = refl

same_test : (first q child : ℕ) → first + child ≢ q
    → nat_le first q && nat_lt q (first + child) ≡ nat_le first q && nat_lt q (first + (child + 1))
same_test first q child n = grind (arith, nat_tests)

-- one child more has a number
pub one_number : (first child next q old x : ℕ)
    → old ≡ cond (nat_le first q && nat_lt q (first + child)) (next + (q - first)) x
    → cond (first + child == q) (next + child) old
    ≡ cond (nat_le first q && nat_lt q (first + (child + 1))) (next + (q - first)) x
one_number first child next q old x e = ⊎_elim
    (λ (f : first + child ≡ q).
    let a : first ≤ q = omega arith in
    let b : q < first + (child + 1) = omega arith in
    let k : next + child ≡ next + (q - first) = omega arith in
    ap (λ (t : Bool). cond t (next + child) old) (here (first + child) q f) ∙ k
    ∙ ap (λ (t : Bool). cond t (next + (q - first)) x) (sym (between first q (first + (child + 1)) a b)))
    (λ (n : first + child ≢ q).
    ap (λ (t : Bool). cond t (next + child) old) (ne_eqb (first + child) q n) ∙ e
    ∙ ap (λ (t : Bool). cond t (next + (q - first)) x) (same_test first q child n))
    (cases_eq (first + child) q)

-- one entry more
moved_step : (s : Births) (m : Table) (e : Entry) (es : List Entry) (b : Bool) (bs : List Bool)
    → renumbered_entries s m (e ∷ es) (b ∷ bs)
    ≡ cond b (renumbered_entry m e ∷ []) [] ++ renumbered_entries (births_after_entry s e)
    (cond b (table_after s m e.event) m) es bs
moved_step s m e es true bs = refl
moved_step s m e es false bs = refl

table_step : (s : Births) (m : Table) (e : Entry) (es : List Entry) (b : Bool) (bs : List Bool)
    → table_of s m (e ∷ es) (b ∷ bs) ≡ table_of (births_after_entry s e) (cond b (table_after s m e.event) m) es bs
table_step s m e es true bs = refl
table_step s m e es false bs = refl

left_marks : (bs : List Bool) (i : ℕ) → i < length bs → drop i bs ≡ get_or bs i false ∷ drop (i + 1) bs
left_marks bs i l = rw add-one (drop-cons bs i false l)

module _ (es : List Entry) (bs : List Bool) (at : ℕ) (inside : at < length es) (marked : at < length bs) (m m' : Table)
    (is : m' ≡ cond (get_or bs at false) (table_after (births (take at es)) m (get_or es at any_entry).event) m) where
  pub entries_on : (old new whole : List Entry)
      → new ≡ old ++ cond (get_or bs at false) (renumbered_entry m (get_or es at any_entry) ∷ []) []
      → old ++ renumbered_entries (births (take at es)) m (drop at es) (drop at bs) ≡ whole
      → new ++ renumbered_entries (births (take (at + 1) es)) m' (drop (at + 1) es) (drop (at + 1) bs) ≡ whole
  entries_on old new whole n h =
      let chunk = cond (get_or bs at false) (renumbered_entry m (get_or es at any_entry) ∷ []) [] in
      let rest = renumbered_entries (births (take (at + 1) es)) m' (drop (at + 1) es) (drop (at + 1) bs) in
      ap (λ xs. xs ++ rest) n ∙ append_assoc old chunk rest
      ∙ ap (λ xs. old ++ xs)
      ((λ j. chunk ++ renumbered_entries (more_births es at any_entry inside j) (is j) (drop (at + 1) es)
      (drop (at + 1) bs))
      ∙ sym (moved_step (births (take at es)) m (get_or es at any_entry) (drop (at + 1) es) (get_or bs at false)
      (drop (at + 1) bs))
      ∙ (λ j. renumbered_entries (births (take at es)) m (sym (left_is es at any_entry inside) j)
      (sym (left_marks bs at marked) j)))
      ∙ h

  pub table_on : (whole : Table) → table_of (births (take at es)) m (drop at es) (drop at bs) ≡ whole
      → table_of (births (take (at + 1) es)) m' (drop (at + 1) es) (drop (at + 1) bs) ≡ whole
  table_on whole h =
      (λ j. table_of (more_births es at any_entry inside j) (is j) (drop (at + 1) es) (drop (at + 1) bs))
      ∙ sym (table_step (births (take at es)) m (get_or es at any_entry) (drop (at + 1) es) (get_or bs at false)
      (drop (at + 1) bs))
      ∙ (λ j. table_of (births (take at es)) m (sym (left_is es at any_entry inside) j)
      (sym (left_marks bs at marked) j))
      ∙ h

-- there are no more numbers in the witness than in the run
next_on : (b : Bool) (s : Births) (m : Table) (p : ℕ) (e : Event) → m.processes ≤ s.processes → m.channels ≤ s.channels
    → ((cond b (table_after s m e) m).processes ≤ (births_after_event s p e).processes)
    × ((cond b (table_after s m e) m).channels ≤ (births_after_event s p e).channels)
next_on true s m p (event.Fork n) h k = (omega arith, k)
next_on true s m p event.Open h k = (h, omega arith)
next_on true s m p (event.Send c) h k = (h, k)
next_on true s m p (event.Receive c) h k = (h, k)
next_on true s m p event.End h k = (h, k)
next_on true s m p (event.Fault f) h k = (h, k)
next_on true s m p event.Laid h k = (h, k)
next_on true s m p event.Pause h k = (h, k)
next_on false s m p (event.Fork n) h k = (omega arith, k)
next_on false s m p event.Open h k = (h, omega arith)
next_on false s m p (event.Send c) h k = (h, k)
next_on false s m p (event.Receive c) h k = (h, k)
next_on false s m p event.End h k = (h, k)
next_on false s m p (event.Fault f) h k = (h, k)
next_on false s m p event.Laid h k = (h, k)
next_on false s m p event.Pause h k = (h, k)

pub next_fits : (b : Bool) (s : Births) (m m' : Table) (p : ℕ) (e : Event) (process channel children channels : ℕ)
    → process ≡ s.processes → channel ≡ s.channels
    → ((s : Births) (p : ℕ) → (births_after_event s p e).processes ≡ s.processes + children)
    → ((s : Births) (p : ℕ) → (births_after_event s p e).channels ≡ s.channels + channels)
    → m.processes ≤ process → m.channels ≤ channel → m' ≡ cond b (table_after s m e) m
    → (m'.processes ≤ process + children) × (m'.channels ≤ channel + channels)
next_fits b s m m' p e process channel children channels pi ci np nc h k is =
    let x = next_on b s m p e (let a = pi in omega arith) (let a = ci in omega arith) in
    let x0 = x.0 in
    let x1 = x.1 in
    let a = np s p in
    let c = nc s p in
    let d = ap (λ (t : Table). t.processes) is in
    let f = ap (λ (t : Table). t.channels) is in
    (omega arith, omega arith)

-- numbers are left for the next entry
pub can_add : (s : Births) (e : Entry) (process channel next_process next_channel : ℕ) → CanFollow s e
    → process ≡ s.processes → channel ≡ s.channels
    → next_process ≤ process → next_channel ≤ channel → CanAdd e.event process channel next_process next_channel
can_add s e process channel next_process next_channel f pi ci h k = by e.event f.1
  where
    by : (v : Event) → GivesNumbers s e.process v → CanAdd v process channel next_process next_channel
    by (event.Fork n) g = (let a = g.0 in omega arith, h)
    by event.Open g = (let a = g.0 in omega arith, k)
    by (event.Send c) g = tt
    by (event.Receive c) g = tt
    by event.End g = tt
    by (event.Fault x) g = tt
    by event.Laid g = tt
    by event.Pause g = tt

-- the counts after the next entry
module _ (es : List Entry) (at : ℕ) (inside : at < length es) where
  pub more_processes : (process children : ℕ) → process ≡ (births (take at es)).processes
      → ((s : Births) (p : ℕ) → (births_after_event s p (get_or es at any_entry).event).processes
      ≡ s.processes + children)
      → process + children ≡ (births (take (at + 1) es)).processes
  more_processes process children h k =
      ap (λ n. n + children) h
      ∙ sym (ap (λ (s : Births). s.processes) (more_births es at any_entry inside)
      ∙ k (births (take at es)) (get_or es at any_entry).process)

  pub more_channels : (channel channels : ℕ) → channel ≡ (births (take at es)).channels
      → ((s : Births) (p : ℕ) → (births_after_event s p (get_or es at any_entry).event).channels
      ≡ s.channels + channels)
      → channel + channels ≡ (births (take (at + 1) es)).channels
  more_channels channel channels h k =
      ap (λ n. n + channels) h
      ∙ sym (ap (λ (s : Births). s.channels) (more_births es at any_entry inside)
      ∙ k (births (take at es)) (get_or es at any_entry).process)
