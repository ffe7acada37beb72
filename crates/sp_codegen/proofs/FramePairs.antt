-- Lists of frames, and their ends.
use Rattle.std.proofs.Common.{◌≡◌, ◌⊎◌, inl, inr, ℕ, zero, suc, ◌≤◌, ◌==◌, List, [], ◌∷◌, Bool, true, false}
use Rattle.std.proofs.Common.{if◌then◌else◌, length, refl, sym, ap, ◌∙◌, arith, eqb-true, eq-eqb, ◌<◌}
use Rattle.std.specs.Prelude.{◌≢◌, ◌-◌, drop}
use Rattle.sp_cell.proofs.FrameLaws.{is_other}
use Rattle.sp_meaning.specs.Model.{Name}
use Rattle.sp_code.specs.Memory.{last_frames, frames_up}
use Rattle.sp_tree.specs.Plain.{Program}
use Rattle.sp_codegen.specs.FramePairs.{FramePair, sources, machines, pairs_from, up_at}
use Rattle.sp_codegen.specs.MemoryRelation.{Paired}

-- where it ends so, it is so long
pub from_length : (n : ℕ) (js : List FramePair) (k : FramePair) (rest : List FramePair) → pairs_from n js ≡ k ∷ rest
    → (suc (length rest) ≡ n) × (n ≤ length js)
from_length n [] k rest e = absurd (cc e)
from_length n (j ∷ js) k rest e = go (length (j ∷ js) == n) refl (from_length n js k rest) e
  where
    go : (b : Bool) → length (j ∷ js) == n ≡ b
        → (pairs_from n js ≡ k ∷ rest → (suc (length rest) ≡ n) × (n ≤ length js))
        → (if b then j ∷ js else pairs_from n js) ≡ k ∷ rest → (suc (length rest) ≡ n) × (n ≤ length (j ∷ js))
    go true t ih e =
        let l : suc (length js) ≡ n = eqb-true (length (j ∷ js)) n t in
        let d : length (j ∷ js) ≡ length (k ∷ rest) = ap (λ (z : List FramePair). length z) e in
        (omega (arith, l, d), omega (arith, l))
    go false t ih e = let r = ih e in (r.0, omega (arith, r.1))

pub from_inside : (n : ℕ) (js : List FramePair) (k : FramePair) (rest : List FramePair) → pairs_from (suc n) js ≡ k
    ∷ rest → n < length js
from_inside n js k rest e = let z = (from_length (suc n) js k rest e).1 in omega (arith, z)

pub from_short : (n : ℕ) (js : List FramePair) → length (pairs_from n js) ≤ length js
from_short n [] = omega arith
from_short n (j ∷ js) = go (length (j ∷ js) == n) (from_short n js)
  where
    go : (b : Bool) → length (pairs_from n js) ≤ length js → length (if b then j ∷ js else pairs_from n js) ≤ length
        (j ∷ js)
    go true h = omega arith
    go false h = omega (arith, h)

-- what stands below stays with a new frame
pub from_push : (n : ℕ) (j : FramePair) (js : List FramePair) (k : FramePair) (rest : List FramePair)
    → pairs_from n js ≡ k ∷ rest
    → pairs_from n (j ∷ js) ≡ k ∷ rest
from_push n j js k rest e =
    let l = (from_length n js k rest e).1 in
    ap (λ b. if b then j ∷ js else pairs_from n js)
    (is_other (length (j ∷ js)) n (λ d. absurd (omega (arith, d, l)))) ∙ e

pub from_here : (j : FramePair) (js : List FramePair) → pairs_from (suc (length js)) (j ∷ js) ≡ j ∷ js
from_here j js = ap (λ b. if b then j ∷ js else pairs_from (suc (length js)) js)
    (eq-eqb (length (j ∷ js)) (suc (length js)) refl)

-- the newest, or one below
pub from_cases : (n : ℕ) (j : FramePair) (js : List FramePair) (k : FramePair) (rest : List FramePair)
    → pairs_from n (j ∷ js) ≡ k ∷ rest
    → ((n ≡ suc (length js)) × (j ∷ js ≡ k ∷ rest)) ⊎ (pairs_from n js ≡ k ∷ rest)
from_cases n j js k rest e = go (length (j ∷ js) == n) refl e
  where
    go : (b : Bool) → length (j ∷ js) == n ≡ b → (if b then j ∷ js else pairs_from n js) ≡ k ∷ rest
        → ((n ≡ suc (length js)) × (j ∷ js ≡ k ∷ rest)) ⊎ (pairs_from n js ≡ k ∷ rest)
    go true t e = inl (sym (eqb-true (length (j ∷ js)) n t), e)
    go false t e = inr e

-- the end of an end
pub from_from : (a b : ℕ) (js : List FramePair) (k : FramePair) (rest : List FramePair) → pairs_from a (pairs_from b js)
    ≡ k ∷ rest
    → pairs_from a js ≡ k ∷ rest
from_from a b [] k rest e = e
from_from a b (j ∷ js) k rest e = go (length (j ∷ js) == b) (from_from a b js k rest) e
  where
    go : (t : Bool) → (pairs_from a (pairs_from b js) ≡ k ∷ rest → pairs_from a js ≡ k ∷ rest)
        → pairs_from a (if t then j ∷ js else pairs_from b js) ≡ k ∷ rest → pairs_from a (j ∷ js) ≡ k ∷ rest
    go true ih e = e
    go false ih e = from_push a j js k rest (ih e)

-- what is so many levels outward is an end
pub up_from : (up : ℕ) (js : List FramePair) (k : FramePair) (rest : List FramePair) → up_at up js ≡ k ∷ rest
    → pairs_from (suc (length rest)) js ≡ k ∷ rest
up_from zero js k rest e = ap (λ z. pairs_from (suc (length rest)) z) e ∙ from_here k rest
up_from (suc up) [] k rest e = absurd (cc e)
up_from (suc up) (j ∷ js) k rest e = from_push (suc (length rest)) j js k rest
    (from_from (suc (length rest)) j.source.link js k rest (up_from up (pairs_from j.source.link js) k rest e))

-- ---- the frames of the machine

pub machines_length : (js : List FramePair) → length (machines js) ≡ length js
machines_length [] = refl
machines_length (j ∷ js) = ap suc (machines_length js)

pub sources_length : (js : List FramePair) → length (sources js) ≡ length js
sources_length [] = refl
sources_length (j ∷ js) = ap suc (sources_length js)

drop_more : {A : Type 0} (x : A) (xs : List A) (n : ℕ) → n ≤ length xs
    → drop (length (x ∷ xs) - n) (x ∷ xs) ≡ drop (length xs - n) xs
drop_more x xs n l = ap (λ z. drop z (x ∷ xs)) {y = suc (length xs - n)} (omega (arith, l))

drop_all : {A : Type 0} (xs : List A) (n : ℕ) → length xs ≡ n → drop (length xs - n) xs ≡ xs
drop_all xs n e = ap (λ z. drop z xs) {y = 0} (omega (arith, e))

drop_none : {A : Type 0} (k : ℕ) → ◌≡◌ {A = List A} (drop k []) []
drop_none zero = refl
drop_none (suc k) = refl

pub last_machines : (n : ℕ) (js : List FramePair) → n ≤ length js → last_frames n (machines js)
    ≡ machines (pairs_from n js)
last_machines n [] l = drop_none (0 - n)
last_machines n (j ∷ js) l = go (λ less. last_machines n js less) (length (j ∷ js) == n) refl
  where
    go : (n ≤ length js → last_frames n (machines js) ≡ machines (pairs_from n js)) → (b : Bool)
        → length (j ∷ js) == n ≡ b
        → last_frames n (machines (j ∷ js)) ≡ machines (if b then j ∷ js else pairs_from n js)
    go ih true t = let e : suc (length js) ≡ n = eqb-true (length (j ∷ js)) n t in
        drop_all (machines (j ∷ js)) n (let a = machines_length (j ∷ js) in omega (arith, a, e))
    go ih false t =
        let no : suc (length js) ≢ n = λ e. (let x : false ≡ true = sym t ∙ eq-eqb (length (j ∷ js)) n e in
        absurd (cc x)) in
        let less : n ≤ length js = Prim.grind (arith, l, no) in
        let a = machines_length js in
        drop_more j.machine (machines js) n (omega (arith, a, less)) ∙ ih less

module _ (p : Program) (Called : Name → ℕ → Type 0) where
  pub paired_from : (n : ℕ) (js : List FramePair) → Paired p Called js → Paired p Called (pairs_from n js)
  paired_from n [] h = tt
  paired_from n (j ∷ js) h = go (paired_from n js h.1) (length (j ∷ js) == n)
    where
      go : Paired p Called (pairs_from n js) → (b : Bool) → Paired p Called (if b then j ∷ js else pairs_from n js)
      go ih true = h
      go ih false = ih

  pub paired_up : (up : ℕ) (js : List FramePair) → Paired p Called js → Paired p Called (up_at up js)
  paired_up zero js h = h
  paired_up (suc up) [] h = tt
  paired_up (suc up) (j ∷ js) (_, others) =
      paired_up up (pairs_from j.source.link js) (paired_from j.source.link js others)

  pub frames_up_is : (up : ℕ) (js : List FramePair) → Paired p Called js
      → frames_up up (machines js) ≡ machines (up_at up js)
  frames_up_is zero js h = refl
  frames_up_is (suc up) [] h = refl
  frames_up_is (suc up) (j ∷ js) (pair, others) =
      ap (λ n. frames_up up (last_frames n (machines js))) (sym pair.link_is)
      ∙ ap (λ z. frames_up up z) (last_machines j.source.link js pair.link_low)
      ∙ frames_up_is up (pairs_from j.source.link js) (paired_from j.source.link js others)
