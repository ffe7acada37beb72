-- How what was put goes together: pieces one behind the other, and the end where all bytes that count are there.
use Rattle.std.proofs.Common.{◌≡◌, ◌≤◌, ◌<◌, ◌+◌, ◌-◌, ℕ, List, [], ◌∷◌, ◌++◌, length, take, min, sym, ap, ◌∙◌}
use Rattle.std.proofs.Common.{append_assoc}
use Rattle.std.proofs.Common.{⊎_elim, arith}
use Rattle.std.proofs.lemmas.List.{take-append-le, take_all, length-take, length-take-le}
use Rattle.std.proofs.Math.Seq.{take-append-add}
use Rattle.std.proofs.lemmas.Bool.{cases_lt}
use Rattle.sp_cell.specs.declared.cell.Cell.{Cell}
use Rattle.sp_base.specs.declared.writer.Writer.{Writer}
use Rattle.sp_base.specs.Adds.{Adds}
use Rattle.sp_where.specs.declared.values.Shown.{Shown}
use Rattle.sp_where.specs.Shorts.{AddsShort, CoversForm, Fills, filled_by}
use Rattle.sp_where.specs.Values.{Piece, Fixed}

-- what is added whole is added short
pub short : (most : ℕ) (old new : Writer ℕ) (t : List ℕ) → Adds old new t → AddsShort most old new t
short most old new t h = λ kept.
    let a = h kept in (
      a.0,
      λ rest. ap (λ z. take most (z ++ rest)) a.1 ∙ ap (take most) (append_assoc old.items.items t rest),
    )

module _ (v : Shown) where
  -- bytes are a piece
  pub fixed : (old new : Writer ℕ) (t : List ℕ) (cs : List Cell) → AddsShort v.most old new t
      → Fills v old cs new cs (Fixed t ∷ [])
  fixed old new t cs h = λ kept. let a = h kept in (a.0, λ more. a.1 (filled_by v more cs))

  -- one part more
  pub goes_on : (first old new : Writer ℕ) (cs ds es : List Cell) (part rest whole : List Piece)
      → CoversForm v first cs old ds (part ++ rest) whole → Fills v old ds new es part
      → CoversForm v first cs new es rest whole
  goes_on first old new cs ds es part rest whole h f = λ kept.
      let b = f kept in
      let a = h b.0 in (
        a.0,
        λ more. b.1 (rest ++ more)
            ∙ ap (λ z. take v.most (old.items.items ++ filled_by v z ds)) (sym (append_assoc part rest more))
            ∙ a.1 more,
      )

  -- two parts
  pub both : (first old new : Writer ℕ) (cs ds es : List Cell) (a b : List Piece) → Fills v first cs old ds a
      → Fills v old ds new es b → Fills v first cs new es (a ++ b)
  both first old new cs ds es a b h f = λ kept.
      let y = f kept in
      let x = h y.0 in (
        x.0,
        λ more. y.1 more ∙ x.1 (b ++ more)
            ∙ ap (λ z. take v.most (first.items.items ++ filled_by v z cs)) (sym (append_assoc a b more)),
      )

  -- where all bytes that count are there, what comes behind does not count
  pub stops : (first new : Writer ℕ) (cs ds es : List Cell) (rest whole : List Piece)
      → CoversForm v first cs new ds rest whole → v.most ≤ length new.items.items
      → CoversForm v first cs new es [] whole
  stops first new cs ds es rest whole h full = λ kept.
      let a = h kept in (
        a.0,
        λ more. take-append-le v.most new.items.items (filled_by v more es) full
            ∙ sym (take-append-le v.most new.items.items (filled_by v (rest ++ more) ds) full) ∙ a.1 more,
      )

-- a first part of what is to be put, as long as there is room
pub short_part : (most n : ℕ) (old new bytes : List ℕ) → n ≡ min (most - length old) (length bytes)
    → new ≡ old ++ take n bytes → (rest : List ℕ) → take most (new ++ rest) ≡ take most (old ++ (bytes ++ rest))
short_part most n old new bytes size made rest =
    ap (λ z. take most (z ++ rest)) made ∙ ap (take most) (append_assoc old (take n bytes) rest)
    ∙ ⊎_elim (λ room. within room) (λ full. without full) (cases_lt (length old) most)
  where
    without : most ≤ length old → take most (old ++ (take n bytes ++ rest)) ≡ take most (old ++ (bytes ++ rest))
    without full = take-append-le most old (take n bytes ++ rest) full
        ∙ sym (take-append-le most old (bytes ++ rest) full)

    same : (r : ℕ) → n ≡ min r (length bytes) → take r (take n bytes ++ rest) ≡ take r (bytes ++ rest)
    same r e = ⊎_elim (λ l. cropped r l (omega (arith, e, l)))
        (λ l. ap (λ z. take r (z ++ rest)) (take_all n bytes (omega (arith, e, l))))
        (cases_lt r (length bytes))
      where
        cropped : (r : ℕ) → r < length bytes → n ≡ r → take r (take n bytes ++ rest) ≡ take r (bytes ++ rest)
        cropped r l m =
            let long = length-take-le n bytes (omega (arith, m, l)) in
            take-append-le r (take n bytes) rest (omega (arith, m, long)) ∙ ap (λ k. take r (take k bytes)) m
            ∙ take_all r (take r bytes) (let k = length-take r bytes in omega (arith, k))
            ∙ sym (take-append-le r bytes rest (omega (arith, l)))

    within : length old < most → take most (old ++ (take n bytes ++ rest)) ≡ take most (old ++ (bytes ++ rest))
    within room =
        let at : most ≡ length old + (most - length old) = omega (arith, room) in
        ap (λ k. take k (old ++ (take n bytes ++ rest))) at
        ∙ take-append-add old (take n bytes ++ rest) (most - length old)
        ∙ ap (λ z. old ++ z) (same (most - length old) size)
        ∙ sym (take-append-add old (bytes ++ rest) (most - length old))
        ∙ ap (λ k. take k (old ++ (bytes ++ rest))) (sym at)
