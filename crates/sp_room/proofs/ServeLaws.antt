-- What a call of a seat tells: from the steps of its turn to the clauses of `serve`.
use Rattle.std.proofs.Common.{◌≡◌, ℕ, List, [], ◌∷◌, ◌++◌, refl, sym}
use Rattle.std.proofs.Common.{ap, ◌∙◌, subst, Option, Some}
use Rattle.sp_room.specs.History.{StartsWith, notes_by, LeadsTo}
use Rattle.sp_room.specs.RoomRule.{SlotBox, SeatPart, holder, view_after_note, view_after_last_note, view_after_return}
use Rattle.sp_room.specs.RoomRule.{HoldsSlot, Called, Declined}
use Rattle.sp_room.proofs.Histories.{starts_longer, by_mine, runs_on}

module _ {O A G N : Type 0} (opens : O → Type 0) (steps : O → ℕ → A → O → G → Option N → Type 0) (author : N → ℕ)
    (x : O) where
  -- the slot's content with the note of the call
  pub noted_slot : (m m' : SeatPart O N) (cs : List (ℕ × Option (SlotBox O N))) (d : SlotBox O N) (y : O) (number : ℕ)
      (a : A)
      (g : G) (o : Option N) (n : N) (items : List N)
      → m' ≡ (holder m.0 d.value.notes.items d.value.reserved, cs) → HoldsSlot opens steps author m.0 d
      → m.0.opening ≡ Some x → steps d.value.object number a y g o → o ≡ Some n
      → items ≡ d.value.notes.items ++ n ∷ []
      → (items ≡ m'.0.seen ++ n ∷ []) × LeadsTo steps x (m'.0.seen ++ n ∷ []) y
  noted_slot m m' cs d y number a g o n items acquired holds from call is more =
      subst (λ (z : SeatPart O N). (items ≡ z.0.seen ++ n ∷ [])
      × LeadsTo steps x (z.0.seen ++ n ∷ []) y) (sym acquired) (
        more,
        runs_on steps x d.value.notes.items d.value.object y number a g n ((holds.2 x from).1)
            (subst (λ z. steps d.value.object number a y g z) is call),
      )

  -- what the seat has seen after a call with a note, and that its own notes in it are all
  pub seen_on : (m m' m'' : SeatPart O N) (cs : List (ℕ × Option (SlotBox O N))) (d : SlotBox O N) (n : N)
      → m' ≡ (holder m.0 d.value.notes.items d.value.reserved, cs) → HoldsSlot opens steps author m.0 d
      → m'' ≡ (view_after_return (view_after_note m'.0 (n ∷ [])), []) → author n ≡ m.0.number
      → StartsWith m''.0.seen m.0.seen × (notes_by author m''.0.number m''.0.seen ≡ m''.0.own)
  seen_on m m' m'' cs d n acquired holds end named =
      subst (λ (z : SeatPart O N). StartsWith z.0.seen m.0.seen × (notes_by author z.0.number z.0.seen ≡ z.0.own))
      (sym (end ∙ ap (λ (z : SeatPart O N). (view_after_return (view_after_note z.0 (n ∷ [])), [])) acquired)) (
        starts_longer d.value.notes.items (n ∷ []) m.0.seen holds.0,
        by_mine author m.0.number d.value.notes.items n named ∙ ap (λ l. l ++ n ∷ []) holds.1,
      )

  -- the call with a note
  pub called : (m m' m'' : SeatPart O N) (cs : List (ℕ × Option (SlotBox O N))) (d : SlotBox O N) (y : O) (number : ℕ)
      (a : A)
      (g : G) (o : Option N) (n : N)
      → m' ≡ (holder m.0 d.value.notes.items d.value.reserved, cs) → HoldsSlot opens steps author m.0 d
      → m'' ≡ (view_after_return (view_after_note m'.0 (n ∷ [])), []) → m.0.opening ≡ Some x → number ≡ m.0.number
      → steps d.value.object number a y g o → o ≡ Some n
      → Called steps x m.0 a g m''.0
  called m m' m'' cs d y number a g o n acquired holds end from is call noted =
      let here : steps d.value.object m.0.number a y g (Some n) =
      subst (λ (z : ℕ × Option N). steps d.value.object z.0 a y g z.1) (λ i. (is i, noted i)) call in
      subst (λ (z : SeatPart O N). Called steps x m.0 a g z.0)
      (sym (end ∙ ap (λ (z : SeatPart O N). (view_after_return (view_after_note z.0 (n ∷ [])), [])) acquired))
      record {
        before = d.value.notes.items;
        met = d.value.object;
        left = y;
        note = Some n;
        begins = holds.0;
        legal = (holds.2 x from).1;
        answer = here;
        appended = refl;
        own = refl;
        legal_after = runs_on steps x d.value.notes.items d.value.object y m.0.number a g n ((holds.2 x from).1) here;
      }

  -- the same, of the reserve
  pub seen_last : (m m' m'' : SeatPart O N) (cs : List (ℕ × Option (SlotBox O N))) (d : SlotBox O N) (n : N)
      → m' ≡ (holder m.0 d.value.notes.items d.value.reserved, cs) → HoldsSlot opens steps author m.0 d
      → m'' ≡ (view_after_return (view_after_last_note m'.0 (n ∷ [])), []) → author n ≡ m.0.number
      → StartsWith m''.0.seen m.0.seen × (notes_by author m''.0.number m''.0.seen ≡ m''.0.own)
  seen_last m m' m'' cs d n acquired holds end named =
      subst (λ (z : SeatPart O N). StartsWith z.0.seen m.0.seen × (notes_by author z.0.number z.0.seen ≡ z.0.own))
      (sym (end ∙ ap (λ (z : SeatPart O N). (view_after_return (view_after_last_note z.0 (n ∷ [])), [])) acquired)) (
        starts_longer d.value.notes.items (n ∷ []) m.0.seen holds.0,
        by_mine author m.0.number d.value.notes.items n named ∙ ap (λ l. l ++ n ∷ []) holds.1,
      )

  pub called_last : (m m' m'' : SeatPart O N) (cs : List (ℕ × Option (SlotBox O N))) (d : SlotBox O N) (y : O)
      (number : ℕ)
      (a : A) (g : G) (o : Option N) (n : N)
      → m' ≡ (holder m.0 d.value.notes.items d.value.reserved, cs) → HoldsSlot opens steps author m.0 d
      → m'' ≡ (view_after_return (view_after_last_note m'.0 (n ∷ [])), []) → m.0.opening ≡ Some x → number ≡ m.0.number
      → steps d.value.object number a y g o → o ≡ Some n
      → Called steps x m.0 a g m''.0
  called_last m m' m'' cs d y number a g o n acquired holds end from is call noted =
      let here : steps d.value.object m.0.number a y g (Some n) =
      subst (λ (z : ℕ × Option N). steps d.value.object z.0 a y g z.1) (λ i. (is i, noted i)) call in
      subst (λ (z : SeatPart O N). Called steps x m.0 a g z.0)
      (sym (end ∙ ap (λ (z : SeatPart O N). (view_after_return (view_after_last_note z.0 (n ∷ [])), [])) acquired))
      record {
        before = d.value.notes.items;
        met = d.value.object;
        left = y;
        note = Some n;
        begins = holds.0;
        legal = (holds.2 x from).1;
        answer = here;
        appended = refl;
        own = refl;
        legal_after = runs_on steps x d.value.notes.items d.value.object y m.0.number a g n ((holds.2 x from).1) here;
      }

  -- no call, for want of memory
  pub declined : (refused : A → G → Type 0) (m m' m'' : SeatPart O N) (cs : List (ℕ × Option (SlotBox O N)))
      (d : SlotBox O N)
      (a : A) (g : G)
      → m' ≡ (holder m.0 d.value.notes.items d.value.reserved, cs) → HoldsSlot opens steps author m.0 d
      → m'' ≡ (view_after_return m'.0, []) → m.0.opening ≡ Some x → refused a g
      → Declined steps refused x m.0 a g m''.0
  declined refused m m' m'' cs d a g acquired holds end from back =
      subst (λ (z : SeatPart O N). Declined steps refused x m.0 a g z.0)
      (sym (end ∙ ap (λ (z : SeatPart O N). (view_after_return z.0, [])) acquired))
      record { answer = back; own = refl; met = d.value.object; legal = (holds.2 x from).1 }
