-- Going over the entries of a journal and what is told of them.
use Rattle.std.proofs.Common.{◌≡◌, ℕ, ◌+◌, ◌<◌, ◌≤◌, List, [], ◌∷◌, ◌++◌, length, get_or, take, drop, add-one, sym, ap}
use Rattle.std.proofs.Common.{◌∙◌, refl}
use Rattle.std.proofs.Common.{append_assoc, arith, min, ⊎_elim, Result, Ok, Err, OnOk, IfOk}
use Rattle.std.proofs.lemmas.Bool.{cases_lt}
use Rattle.std.proofs.Math.Seq.{drop-cons}
use Rattle.std.proofs.Math.ListN.{drop_of_length-le}
use Rattle.sp_tree.specs.declared.checked.KindOf.{KindOf}
use Rattle.sp_journal.specs.declared.entry.Entry.{Entry}
use Rattle.sp_journal.specs.Births.{Births, births}
use Rattle.sp_journal.proofs.Walk.{left_is, more_births}
use Rattle.sp_lines.specs.declared.mark.Mark.{Mark}
use Rattle.sp_lines.specs.declared.entry_place.Told.{Told}
use Rattle.sp_where.specs.Traces.{trace_line, trace_lines}

told_left : (ws : List Told) (i : ℕ) (d : Told) → i < length ws → drop i ws ≡ get_or ws i d ∷ drop (i + 1) ws
told_left ws i d l = rw add-one (drop-cons ws i d l)

module _ (kinds : List KindOf) (constants : List (List (List ℕ))) (marks : List Mark) where
  abbrev lines : ℕ → Births → List Entry → List Told → List ℕ
  lines = trace_lines kinds constants marks

  -- the line of an entry, and the others
  pub lines_more : (es : List Entry) (ws : List Told) (i : ℕ) (d : Entry) (u : Told) → i < length es → i < length ws
      → lines i (births (take i es)) (drop i es) (drop i ws)
      ≡ trace_line kinds constants marks i (births (take i es)) (get_or es i d) (get_or ws i u)
      ++ lines (i + 1) (births (take (i + 1) es)) (drop (i + 1) es) (drop (i + 1) ws)
  lines_more es ws i d u l m =
      ap (λ xs. lines i (births (take i es)) xs (drop i ws)) (left_is es i d l)
      ∙ ap (λ ys. lines i (births (take i es)) (get_or es i d ∷ drop (i + 1) es) ys) (told_left ws i u m)
      ∙ ap (λ (s : Births). trace_line kinds constants marks i (births (take i es)) (get_or es i d) (get_or ws i u)
      ++ lines (i + 1) s (drop (i + 1) es) (drop (i + 1) ws)) (sym (more_births es i d l))

  none_told : (i : ℕ) (s : Births) (es : List Entry) → lines i s es [] ≡ []
  none_told i s [] = refl
  none_told i s (e ∷ es) = refl

  -- where one of the two ends
  lines_end : (es : List Entry) (ws : List Told) (i : ℕ) (s : Births) → length es ≤ i
      → lines i s (drop i es) (drop i ws) ≡ []
  lines_end es ws i s l = ap (λ xs. lines i s xs (drop i ws)) (drop_of_length-le es l)

  told_end : (es : List Entry) (ws : List Told) (i : ℕ) (s : Births) → length ws ≤ i
      → lines i s (drop i es) (drop i ws) ≡ []
  told_end es ws i s l = ap (λ ys. lines i s (drop i es) ys) (drop_of_length-le ws l) ∙ none_told i s (drop i es)

  pub lines_over : (es : List Entry) (ws : List Told) (i : ℕ) (s : Births) → min (length es) (length ws) ≤ i
      → lines i s (drop i es) (drop i ws) ≡ []
  lines_over es ws i s h = ⊎_elim (λ l. told_end es ws i s (omega (arith, h, l))) (λ l. lines_end es ws i s l)
      (cases_lt i (length es))

-- what a writer gives at the end
pub finished : {A E : Type 0} (P : Type 0) (Q R : A → Type 0) (r : Result A E) → OnOk r P → IfOk r Q
    → (P → (x : A) → Q x → R x) → IfOk r R
finished P Q R (Ok x) p q f = f p x q
finished P Q R (Err e) p q f = tt

-- seven parts, one behind the other
pub seven : (o a b c d e f g : List ℕ) → ((((((o ++ a) ++ b) ++ c) ++ d) ++ e) ++ f) ++ g
    ≡ o ++ ((((((a ++ b) ++ c) ++ d) ++ e) ++ f) ++ g)
seven o a b c d e f g =
    ap (λ z. ((((z ++ c) ++ d) ++ e) ++ f) ++ g) (append_assoc o a b)
    ∙ ap (λ z. (((z ++ d) ++ e) ++ f) ++ g) (append_assoc o (a ++ b) c)
    ∙ ap (λ z. ((z ++ e) ++ f) ++ g) (append_assoc o ((a ++ b) ++ c) d)
    ∙ ap (λ z. (z ++ f) ++ g) (append_assoc o (((a ++ b) ++ c) ++ d) e)
    ∙ ap (λ z. z ++ g) (append_assoc o ((((a ++ b) ++ c) ++ d) ++ e) f)
    ∙ append_assoc o (((((a ++ b) ++ c) ++ d) ++ e) ++ f) g

-- the line that was put, and what is left
pub put_one : (a c whole line rest all : List ℕ) → c ≡ a ++ line → a ++ whole ≡ all → whole ≡ line ++ rest
    → c ++ rest ≡ all
put_one a c whole line rest all f g h =
    ap (λ x. x ++ rest) f ∙ append_assoc a line rest ∙ ap (λ x. a ++ x) (sym h) ∙ g
