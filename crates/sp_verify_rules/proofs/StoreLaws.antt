-- What is done to a store leaves every activation what it holds, where pieces keep their lengths, and the input and the
-- output stay.
use Rattle.std.proofs.Common.{◌≡◌, ◌≢◌, inl, inr, ⊎_elim, ℕ, zero, suc, ◌≤◌, ◌<◌, List, [], ◌∷◌, length, Option, Some}
use Rattle.std.proofs.Common.{None, refl, sym, ap, ◌∙◌, subst, arith}
use Rattle.std.specs.FinMap as map
use Rattle.std.proofs.lemmas.Option.{same_Some}
use Rattle.sp_cell.specs.declared.cell.Cell.{Cell}
use Rattle.sp_cell.specs.declared.spot.Spot.{Spot}
use Rattle.sp_cell.specs.Map.{Map, Content, Own, Shared, Output, Away, IsOutput, output_spot, cells_of}
use Rattle.sp_cell.proofs.Laws.{get_other, get_here, same_or}
use Rattle.sp_cell.specs.Fork.{with_shared}
use Rattle.sp_cell.proofs.Plan.{in_or, get_lent_in, get_lent_out}
use Rattle.sp_cell.specs.Spots.{In}
use Rattle.sp_code.specs.declared.code.Layout.{Layout}
use Rattle.sp_code.specs.Memory.{Home, Frame, position_in}
use Rattle.sp_code.specs.PlainStore.{piece_of}
use Rattle.sp_code.specs.System.{spot_of}
use Rattle.sp_verify_rules.specs.HeldEffects.{HoldsVariable, Allowed, AllAllowed, input_spot}

-- below n the pieces keep their lengths, but for the input and the output, which stay what they are
pub record KeepsLengths (K : Type 0) (n : ℕ) (m k : Map) : Type 0 where
  pub input : K → 0 < n → (v : ℕ) → position_in (piece_of (map.get m input_spot)) ≡ Some v → (w : ℕ)
      × (position_in (piece_of (map.get k input_spot)) ≡ Some w)
  pub output : K → 0 < n → IsOutput (map.get m output_spot) → IsOutput (map.get k output_spot)
  pub pieces : (q : Spot) → q.frame < n → (K → (q ≢ input_spot) × (q ≢ output_spot)) → (cs : List Cell)
      → piece_of (map.get m q) ≡ Some cs → (ds : List Cell) × (piece_of (map.get k q) ≡ Some ds)
      × (length ds ≡ length cs)

pub keeps_less : (K : Type 0) (n i : ℕ) (m k : Map) → i ≤ n → KeepsLengths K n m k → KeepsLengths K i m k
keeps_less K n i m k l h = record {
  input = λ c b v e. h.input c (omega (arith, b, l)) v e;
  output = λ c b o. h.output c (omega (arith, b, l)) o;
  pieces = λ q b d cs e. h.pieces q (omega (arith, b, l)) d cs e;
}

module _ (ls : List Layout) (K : Type 0) (m k : Map) where
  pub allowed_keeps : (E : ℕ → Type 0) (n : ℕ) (fs : List Frame) → KeepsLengths K n m k → Allowed ls K E n fs m
      → Allowed ls K E n fs k
  allowed_keeps E n fs keeps a = record {
    held = λ x e. here x e (a.held x e);
    apart = a.apart;
    console = a.console;
    clear = a.clear;
  }
    where
      here : (x : ℕ) (e : E x) → (q : Spot) × (spot_of ls fs x ≡ Some q) × (q.frame < n) × HoldsVariable ls fs m x q
          → (q : Spot)
          × (spot_of ls fs x ≡ Some q) × (q.frame < n) × HoldsVariable ls fs k x q
      here zero e (there, stands, low, (v, position_is)) =
          let is : there ≡ input_spot = sym (same_Some _ _ stands) in
          let far : 0 < n = omega (arith, low) in (
            there,
            stands,
            low,
            subst (λ q. HoldsVariable ls fs k 0 q) (sym is)
                (keeps.input (a.console (inl e)) far v (ap (λ q. position_in (piece_of (map.get m q))) (sym is)
                ∙ position_is)),
          )
      here (suc zero) e (there, stands, low, is_output) =
          let is : there ≡ output_spot = sym (same_Some _ _ stands) in
          let far : 0 < n = omega (arith, low) in (
            there,
            stands,
            low,
            subst (λ q. HoldsVariable ls fs k 1 q) (sym is)
                (keeps.output (a.console (inr e)) far (subst (λ q. IsOutput (map.get m q)) is is_output)),
          )
      here (suc (suc x)) e (there, stands, low, (cs, piece_is, extent_is, size_is)) =
          let (ds, new_piece, length_is) = keeps.pieces there low
          (λ c. a.clear c (suc (suc x)) there (omega arith) e stands) cs piece_is in (
            there,
            stands,
            low,
            (ds, new_piece, extent_is ∙ ap Some (sym length_is), size_is ∙ ap Some (sym length_is)),
          )

  pub all_keeps : {Area : Type 0} (H : Area → List Home) (E : Area → ℕ
      → Type 0) (n : ℕ) (us : List Area) (fs : List Frame) → KeepsLengths K n m k → AllAllowed ls H E K n us fs m
      → AllAllowed ls H E K n us fs k
  all_keeps H E n [] fs keeps h = h
  all_keeps H E n (a ∷ []) fs keeps h = (h.0, allowed_keeps (E a) n fs keeps h.1)
  all_keeps H E n (a ∷ b ∷ us) [] keeps h = h
  all_keeps H E n (a ∷ b ∷ us) (f ∷ fs) keeps (chain, allowed, low, rest) = (
    chain,
    allowed_keeps (E a) n (f ∷ fs) keeps allowed,
    low,
    all_keeps H E f.number (b ∷ us) fs
        (keeps_less K n f.number m k (omega (arith, low)) keeps) rest,
  )

-- ---- which changes do

-- at one spot, with the others as they were
module _ (K : Type 0) (n : ℕ) (m : Map) (s : Spot) (d : Content) where
  other_same : (q : Spot) → q ≢ s → map.get (map.insert m s d) q ≡ map.get m q
  other_same q o = get_other m s d q o

  -- a piece as long as the one that was there, of a variable that is neither the input nor the output
  pub keeps_put : (K → (s ≢ input_spot) × (s ≢ output_spot))
      → ((cs : List Cell) → piece_of (map.get m s) ≡ Some cs → (ds : List Cell) × (piece_of (Some d) ≡ Some ds)
      × (length ds ≡ length cs)) → KeepsLengths K n m (map.insert m s d)
  keeps_put clear same = record {
    input = λ c b v e. (v, ap (λ o. position_in (piece_of o)) (other_same input_spot (λ i. (clear c).0 (sym i))) ∙ e);
    output = λ c b o. subst IsOutput (sym (other_same output_spot (λ i. (clear c).1 (sym i)))) o;
    pieces = λ q b f cs e. ⊎_elim
        (λ i. (let w = same cs (ap (λ z. piece_of (map.get m z)) (sym i)
        ∙ e) in (
          w.0,
          ap (λ z. piece_of (map.get (map.insert m s d) z)) i ∙ ap piece_of (get_here m s d)
              ∙ w.1,
          w.2,
        )))
        (λ o. (cs, ap piece_of (other_same q o) ∙ e, refl))
        (same_or q s);
  }

pub input_not_output : input_spot ≢ output_spot
input_not_output e = let z : 0 ≡ 1 = ap (λ (q : Spot). q.variable) e in absurd (omega (arith, z))

-- the position moves on
pub keeps_input : (K : Type 0) (n : ℕ) (m : Map) (d : Content) (w : ℕ) → position_in (piece_of (Some d)) ≡ Some w
    → ((cs : List Cell) → piece_of (map.get m input_spot) ≡ Some cs → (ds : List Cell) × (piece_of (Some d) ≡ Some ds)
    × (length ds ≡ length cs)) → KeepsLengths K n m (map.insert m input_spot d)
keeps_input K n m d w position same = record {
  input = λ c b v e. (w, ap (λ o. position_in (piece_of o)) (get_here m input_spot d) ∙ position);
  output = λ c b o. subst IsOutput (sym (get_other m input_spot d output_spot (λ i. input_not_output (sym i)))) o;
  pieces = λ q b f cs e. ⊎_elim
      (λ i. (let w = same cs (ap (λ z. piece_of (map.get m z)) (sym i)
      ∙ e) in (
        w.0,
        ap (λ z. piece_of (map.get (map.insert m input_spot d) z)) i
            ∙ ap piece_of (get_here m input_spot d) ∙ w.1,
        w.2,
      )))
      (λ o. (cs, ap piece_of (get_other m input_spot d q o) ∙ e, refl))
      (same_or q input_spot);
}

-- more is printed
pub keeps_output : (K : Type 0) (n : ℕ) (m : Map) (bs : List ℕ) → K
    → KeepsLengths K n m (map.insert m output_spot (Output bs))
keeps_output K n m bs has = record {
  input = λ c b v e. (
    v,
    ap (λ o. position_in (piece_of o))
        (get_other m output_spot (Output bs) input_spot input_not_output) ∙ e,
  );
  output = λ c b o. subst IsOutput (sym (get_here m output_spot (Output bs))) tt;
  pieces = λ q b f cs e. (cs, ap piece_of (get_other m output_spot (Output bs) q (f has).1) ∙ e, refl);
}

-- spots that are looked at alike
pub keeps_same : (K : Type 0) (n : ℕ) (m k : Map) → ((q : Spot) → q.frame < n → map.get k q ≡ map.get m q)
    → KeepsLengths K n m k
keeps_same K n m k same = record {
  input = λ c b v e. (v, ap (λ o. position_in (piece_of o)) (same input_spot b) ∙ e);
  output = λ c b o. subst IsOutput (sym (same output_spot b)) o;
  pieces = λ q b f cs e. (cs, ap piece_of (same q b) ∙ e, refl);
}

pub piece_of_shared : (o : Option Content) (cs : List Cell) → piece_of o ≡ Some cs
    → piece_of (Some (Shared (cells_of o))) ≡ Some cs
piece_of_shared None cs e = absurd (cc e)
piece_of_shared (Some (Own ds)) cs e = e
piece_of_shared (Some (Shared ds)) cs e = e
piece_of_shared (Some (Output bs)) cs e = absurd (cc e)
piece_of_shared (Some Away) cs e = absurd (cc e)

-- what is shared keeps its cells
pub keeps_lent : (K : Type 0) (n : ℕ) (m : Map) (ss : List Spot)
    → (In output_spot ss → IsOutput (map.get m output_spot) → ⊥) → KeepsLengths K n m (with_shared m ss m)
keeps_lent K n m ss out = record {
  input = λ c b v e. (v, position e);
  output = λ c b o. ⊎_elim (λ i. absurd (out i o)) (λ f. subst IsOutput (sym (get_lent_out m ss m output_spot f)) o)
      (in_or output_spot ss);
  pieces = λ q b f cs e. (cs, cells q cs e, refl);
}
  where
    cells : (q : Spot) (cs : List Cell) → piece_of (map.get m q) ≡ Some cs
        → piece_of (map.get (with_shared m ss m) q) ≡ Some cs
    cells q cs e = ⊎_elim (λ i. ap piece_of (get_lent_in m ss m q i)
        ∙ piece_of_shared (map.get m q) cs e) (λ o. ap piece_of (get_lent_out m ss m q o) ∙ e) (in_or q ss)

    there : (o : Option (List Cell)) (v : ℕ) → position_in o ≡ Some v → (cs : List Cell) × (o ≡ Some cs)
    there None v e = absurd (cc e)
    there (Some cs) v e = (cs, refl)

    position : {v : ℕ} → position_in (piece_of (map.get m input_spot)) ≡ Some v
        → position_in (piece_of (map.get (with_shared m ss m) input_spot)) ≡ Some v
    position {v} e = let w = there (piece_of (map.get m input_spot)) v e in ap position_in (cells input_spot w.0 w.1)
        ∙ ap position_in (sym w.1) ∙ e
