-- The pieces of a new frame: each variable has undefined cells of its own, and no other spot changes.
use Rattle.std.proofs.Common.{◌≡◌, ⊎_elim, ℕ, zero, suc, ◌+◌, ◌<◌, List, [], ◌∷◌, Some, refl, sym, ap, ◌∙◌, arith}
use Rattle.std.specs.Prelude.{◌≢◌, replicate, slice_get}
use Rattle.std.specs.FinMap as fin
use Rattle.sp_cell.specs.declared.cell.Cell.TheVariants as cell
use Rattle.sp_cell.specs.declared.spot.Spot.{Spot}
use Rattle.sp_cell.specs.Frame.{with_pieces}
use Rattle.sp_cell.proofs.Laws.{get_other, get_here, same_or}
use Rattle.sp_cell.specs.Map.{Map, Content, Own as Owned, Away}

-- a variable of a frame
abbrev pub spot_at : ℕ → ℕ → Spot
spot_at n v = record { frame = n; variable = v }

pub pieces_other : (m : Map) (n v : ℕ) (cs : List ℕ) (q : Spot) → q.frame ≢ n
    → fin.get (with_pieces m n v cs) q ≡ fin.get m q
pieces_other m n v [] q d = refl
pieces_other m n v (c ∷ cs) q d = pieces_other (fin.insert m (spot_at n v) (Owned (replicate c cell.Undefined))) n
    (v + 1) cs q d ∙ get_other m (spot_at n v) (Owned (replicate c cell.Undefined)) q
    (λ e. d (ap (λ (z : Spot). z.frame) e))

pub pieces_low : (m : Map) (n v : ℕ) (cs : List ℕ) (q : Spot) → q.variable < v
    → fin.get (with_pieces m n v cs) q ≡ fin.get m q
pieces_low m n v [] q l = refl
pieces_low m n v (c ∷ cs) q l =
    pieces_low (fin.insert m (spot_at n v) (Owned (replicate c cell.Undefined))) n (v + 1) cs q (omega (arith, l))
    ∙ get_other m (spot_at n v) (Owned (replicate c cell.Undefined)) q
    (λ e. let z : q.variable ≡ v = ap (λ (z : Spot). z.variable) e in absurd (omega (arith, z, l)))

pub pieces_at : (m : Map) (n v : ℕ) (cs : List ℕ) (k c : ℕ) → slice_get cs k ≡ Some c
    → fin.get (with_pieces m n v cs) (spot_at n (v + k)) ≡ Some (Owned (replicate c cell.Undefined))
pieces_at m n v [] k c e = absurd (cc e)
pieces_at m n v (d ∷ cs) zero c e =
    let same : d ≡ c = cc e in
    let m1 = fin.insert m (spot_at n v) (Owned (replicate d cell.Undefined)) in
    ap (λ z. fin.get (with_pieces m1 n (v + 1) cs) (spot_at n z)) {x = v + 0} {y = v} (omega arith)
    ∙ pieces_low m1 n (v + 1) cs (spot_at n v) (omega arith)
    ∙ get_here m (spot_at n v) (Owned (replicate d cell.Undefined))
    ∙ ap (λ z. Some (Owned (replicate z cell.Undefined))) same
pieces_at m n v (d ∷ cs) (suc k) c e =
    let m1 = fin.insert m (spot_at n v) (Owned (replicate d cell.Undefined)) in
    ap (λ z. fin.get (with_pieces m1 n (v + 1) cs) (spot_at n z)) {x = v + suc k} {y = (v + 1) + k} (omega arith)
    ∙ pieces_at m1 n (v + 1) cs k c e

pub pieces_unaway : (m : Map) (n v : ℕ) (cs : List ℕ) → ((q : Spot) → fin.get m q ≢ Some Away) → (q : Spot)
    → fin.get (with_pieces m n v cs) q ≢ Some Away
pieces_unaway m n v [] h q = h q
pieces_unaway m n v (c ∷ cs) h q = pieces_unaway m1 n (v + 1) cs one q
  where
    x : Content
    x = Owned (replicate c cell.Undefined)

    m1 : Map
    m1 = fin.insert m (spot_at n v) x

    one : (q : Spot) → fin.get m1 q ≢ Some Away
    one q e = ⊎_elim (λ (i : q ≡ spot_at n v).
        (let z : Some x ≡ Some Away = sym (get_here m (spot_at n v) x) ∙ ap (λ y. fin.get m1 y) (sym i) ∙ e in
        absurd (cc z))) (λ (d : q ≢ spot_at n v). h q (sym (get_other m (spot_at n v) x q d) ∙ e))
        (same_or q (spot_at n v))
