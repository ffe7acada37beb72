-- Owners of frames: no process has a frame of one with a longer name.
use Rattle.std.proofs.Common.{◌≡◌, ⊎_elim, ℕ, suc, ◌≤◌, List, [], ◌∷◌, length, subst, arith, ap}
use Rattle.sp_meaning.specs.Model.{Name}
use Rattle.sp_codegen.specs.FramePairs.{FramePair, pairs_from}
use Rattle.sp_codegen.specs.MemoryRelation.{OwnersWithin}
use Rattle.sp_codegen.proofs.FramePairs.{from_cases}

pub within_more : (a b : ℕ) (js : List FramePair) → a ≤ b → OwnersWithin a js → OwnersWithin b js
within_more a b [] l h = tt
within_more a b (j ∷ js) l h = let c = h.0 in (omega (arith, c, l), within_more a b js l h.1)

pub within_at : (a n : ℕ) (js : List FramePair) (k : FramePair) (rest : List FramePair) → OwnersWithin a js
    → pairs_from n js ≡ k ∷ rest
    → length k.source.owner ≤ a
within_at a n [] k rest h e = absurd (cc e)
within_at a n (j ∷ js) k rest h e = ⊎_elim
    (λ (c : (n ≡ suc (length js)) × (j ∷ js ≡ k ∷ rest)).
    (let d : j ≡ k = cc c.1 in subst (λ (z : FramePair). length z.source.owner ≤ a) d h.0))
    (λ (c : pairs_from n js ≡ k ∷ rest). within_at a n js k rest h.1 c)
    (from_cases n j js k rest e)

-- so no frame is one of a process with a longer name
pub no_longer_owner : (a : ℕ) (js : List FramePair) (q : Name) → OwnersWithin a js → suc a ≤ length q → (h : ℕ)
    (j : FramePair) (rest : List FramePair) → pairs_from (suc h) js ≡ j ∷ rest → j.source.owner ≡ q → ⊥
no_longer_owner a js q within longer h j rest e is =
    let b = within_at a (suc h) js j rest within e in
    let c = ap (λ (z : Name). length z) is in omega (arith, b, c, longer)
