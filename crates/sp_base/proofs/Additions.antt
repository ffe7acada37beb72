-- For answers by hand: what stands after two parts, and in a loop.
use Rattle.std.proofs.Common.{◌≡◌, List, [], ◌++◌, Result, Ok, Err, OnOk, sym, ap, ◌∙◌, append_assoc, append-nil}

-- two parts, one behind the other
pub joined : {T : Type 0} (old a b : List T) {mid new whole : List T} → mid ≡ old ++ a → new ≡ mid ++ b → a ++ b ≡ whole
    → new ≡ old ++ whole
joined old a b e h k = h ∙ ap (λ xs. xs ++ b) e ∙ append_assoc old a b ∙ ap (λ xs. old ++ xs) k

-- a loop: one part more, and one less to come
pub goes_on : {T : Type 0} (done a left : List T) {new rest goal : List T} → done ++ rest ≡ goal → new ≡ done ++ a
    → a ++ left ≡ rest → new ++ left ≡ goal
goes_on done a left h e k = ap (λ xs. xs ++ left) e ∙ append_assoc done a left ∙ ap (λ xs. done ++ xs) k ∙ h

-- its end
pub ends : {T : Type 0} (done : List T) {rest goal : List T} → done ++ rest ≡ goal → rest ≡ [] → done ≡ goal
ends done h e = sym (append-nil done) ∙ ap (λ xs. done ++ xs) (sym e) ∙ h

-- what a call that went well did
pub noted : {E : Type 0} {P : Type 0} (r : Result (Unit {0}) E) → OnOk r P → r ≡ Ok tt → P
noted (Ok v) h e = h
noted (Err x) h e = cc
