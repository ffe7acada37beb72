-- The front of a nameable journal is nameable. Besides: the texts so far, with those of one more watcher.
use Rattle.std.proofs.Common.{◌≡◌, ◌<◌, ℕ, Bool, true, false, cond, true≢false, append-nil, filter, zero, suc, refl}
use Rattle.std.proofs.Common.{sym, subst, ◌∙◌, ap, ap₂, List, [], ◌∷◌, ◌++◌, length, take, arith}
use Rattle.std.specs.List.{flat_map, slice_index_or}
use Rattle.std.proofs.lemmas.List.Concat.{flat_map-append}
use Rattle.std.proofs.lemmas.List.Elements.{filter-append}
use Rattle.sp_journal.specs.declared.entry.Entry.{Entry}
use Rattle.sp_journal.specs.Births.{Births, NameableFrom, births_after_entry, first_births}

front : (s : Births) (es : List Entry) (i : ℕ) (e : Entry) → NameableFrom s es → i < length es
    → e ≡ slice_index_or es i e → NameableFrom s (take i es ++ e ∷ [])
front s [] i e h lt is = absurd (omega arith)
front s (x ∷ es) zero e h lt is = subst (λ (y : Entry). NameableFrom s (y ∷ [])) (sym is) (h.0, tt)
front s (x ∷ es) (suc i) e h lt is = (h.0, front (births_after_entry s x) es i e h.1 (omega arith) is)

same_default : (es : List Entry) (i : ℕ) (d e : Entry) → i < length es → slice_index_or es i d ≡ slice_index_or es i e
same_default [] i d e lt = absurd (omega arith)
same_default (x ∷ es) zero d e lt = refl
same_default (x ∷ es) (suc i) d e lt = same_default es i d e (omega arith)

-- the entries so far and the next one
pub nameable_next : (told es : List Entry) (i : ℕ) (d : Entry) → told ≡ take i es → NameableFrom first_births es
    → i < length es → NameableFrom first_births (told ++ slice_index_or es i d ∷ [])
nameable_next told es i d t h lt =
    subst (λ (xs : List Entry). NameableFrom first_births (xs ++ slice_index_or es i d ∷ [])) (sym t)
    (front first_births es i (slice_index_or es i d) h lt (same_default es i d (slice_index_or es i d) lt))

-- ---- the texts so far, with one more watcher

-- a chosen one adds its text
pub text_added : {X A : Type 0} (text : X → List A) (chosen : X → Bool) (ys : List X) (w : X) (out new : List A)
    → out ≡ flat_map text (filter chosen ys) → chosen w ≡ true → new ≡ out ++ text w
    → new ≡ flat_map text (filter chosen (ys ++ w ∷ []))
text_added text chosen ys w out new so_far c added =
    added ∙ ap₂ (λ a b. a ++ b) so_far (sym (one (chosen w) c))
    ∙ sym (flat_map-append text (filter chosen ys) (filter chosen (w ∷ [])))
    ∙ ap (flat_map text) (sym (filter-append chosen ys (w ∷ [])))
  where
    one : (b : Bool) → b ≡ true → flat_map text (cond b (w ∷ []) []) ≡ text w
    one true e = append-nil (text w)
    one false e = absurd (true≢false (sym e))

-- and another adds nothing
pub text_kept : {X A : Type 0} (text : X → List A) (chosen : X → Bool) (ys : List X) (w : X) (out new : List A)
    → out ≡ flat_map text (filter chosen ys) → chosen w ≡ false → new ≡ out
    → new ≡ flat_map text (filter chosen (ys ++ w ∷ []))
text_kept text chosen ys w out new so_far c same =
    same ∙ so_far ∙ ap (flat_map text) (sym (append-nil (filter chosen ys))
    ∙ ap (λ xs. filter chosen ys ++ xs) (sym (none (chosen w) c)) ∙ sym (filter-append chosen ys (w ∷ [])))
  where
    none : (b : Bool) → b ≡ false → cond b (w ∷ []) [] ≡ []
    none true e = absurd (true≢false e)
    none false e = refl
