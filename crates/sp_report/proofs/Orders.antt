-- Processes that are put in the order of their names, one after another.
use Rattle.std.proofs.Common.{◌≡◌, ◌∙◌, ◌+◌, ◌-◌, ◌≤◌, ◌++◌, ◌∷◌, [], ℕ, suc, Bool, true, false, cond, List}
use Rattle.std.proofs.Common.{filter, refl, sym, ap, arith, append-nil}
use Rattle.std.specs.BTreeMap.{insert_entry}
use Rattle.std.proofs.lemmas.List.Elements.{filter-append}
use Rattle.sp_base.specs.declared.name.ProcName.{ProcName}
use Rattle.sp_base.specs.Order.{name_cmp}
use Rattle.sp_journal.specs.Births.{Births}
use Rattle.sp_journal.specs.Names.{proc_name}
use Rattle.sp_journal.specs.Queue.{numbers}
use Rattle.sp_journal.proofs.Facts.{numbers_last}
use Rattle.sp_report.specs.InOrder.{NamedProcess, sorted_by_name, sorted_onto}

pub placed_last : (s : Births) (es : List NamedProcess) (qs : List ℕ) (q : ℕ)
    → sorted_onto s es (qs ++ q ∷ []) ≡ insert_entry name_cmp (sorted_onto s es qs) (proc_name (s.name q)) q
placed_last s es [] q = refl
placed_last s es (x ∷ qs) q = placed_last s (insert_entry name_cmp es (proc_name (s.name x)) x) qs q

-- one more process at its place
one_placed : (s : Births) (m k : List NamedProcess) (qs : List ℕ) (q : ℕ) (name : ProcName) → m ≡ sorted_by_name s qs
    → name ≡ proc_name (s.name q) → k ≡ insert_entry name_cmp m name q → k ≡ sorted_by_name s (qs ++ q ∷ [])
one_placed s m k qs q name e f g =
    g ∙ (λ i. insert_entry name_cmp (e i) (f i) q) ∙ sym (placed_last s [] qs q)

-- the processes from number 1 to p
pub one_forked : (s : Births) (m k : List NamedProcess) (p : ℕ) (name : ProcName) → 1 ≤ p
    → m ≡ sorted_by_name s (numbers 1 (p - 1))
    → name ≡ proc_name (s.name p) → k ≡ insert_entry name_cmp m name p → k ≡ sorted_by_name s (numbers 1 (p + 1 - 1))
one_forked s m k p name some e f g =
    let a : 1 + (p - 1) ≡ p = omega arith in
    let b : suc (p - 1) ≡ p + 1 - 1 = omega arith in
    one_placed s m k (numbers 1 (p - 1)) p name e f g
    ∙ ap (sorted_by_name s) (ap (λ (x : ℕ). numbers 1 (p - 1) ++ x ∷ []) (sym a) ∙ sym (numbers_last 1 (p - 1))
    ∙ ap (numbers 1) b)

-- those of the processes below p that pass a test
module _ (test : ℕ → Bool) (p : ℕ) where
  below_last : filter test (numbers 0 (p + 1)) ≡ filter test (numbers 0 p) ++ cond (test p) (p ∷ []) []
  below_last =
      let a : p + 1 ≡ suc p = omega arith in
      let b : 0 + p ≡ p = omega arith in
      ap (λ (x : ℕ). filter test (numbers 0 x)) a
      ∙ ap (filter test) (numbers_last 0 p ∙ ap (λ (x : ℕ). numbers 0 p ++ x ∷ []) b)
      ∙ filter-append test (numbers 0 p) (p ∷ [])

  pub one_passes : (s : Births) (m k : List NamedProcess) (name : ProcName)
      → m ≡ sorted_by_name s (filter test (numbers 0 p))
      → test p ≡ true → name ≡ proc_name (s.name p) → k ≡ insert_entry name_cmp m name p
      → k ≡ sorted_by_name s (filter test (numbers 0 (p + 1)))
  one_passes s m k name e t f g =
      one_placed s m k (filter test (numbers 0 p)) p name e f g
      ∙ ap (sorted_by_name s) (sym (below_last ∙ ap (λ (b : Bool). filter test (numbers 0 p) ++ cond b (p ∷ []) []) t))

  pub one_fails : (s : Births) (m k : List NamedProcess) → m ≡ sorted_by_name s (filter test (numbers 0 p))
      → test p ≡ false → k ≡ m
      → k ≡ sorted_by_name s (filter test (numbers 0 (p + 1)))
  one_fails s m k e t g =
      g ∙ e ∙ ap (sorted_by_name s)
      (sym (below_last ∙ ap (λ (b : Bool). filter test (numbers 0 p) ++ cond b (p ∷ []) []) t
      ∙ append-nil (filter test (numbers 0 p))))
