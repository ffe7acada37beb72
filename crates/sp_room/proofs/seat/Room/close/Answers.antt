use Rattle.std.proofs.Common.{ap, subst, sym, ◌∙◌, ◌≡◌, ◌≤◌, ℕ, Some, List, length, slice_get}
use Rattle.sp_room.specs.Seats.{IsSeatAt, seat_table, seen_by, opening_of}
use Rattle.sp_room.specs.History.{StartsWith, LeadsTo, notes_by}
use Rattle.sp_room.proofs.seat.Room.close.Goals as goal

pub gather-requires-clause-all : goal.gather-requires-clause-all
gather-requires-clause-all g c = subst (λ (l : List _). (k : ℕ) (t : _) → slice_get l k ≡ Some t
    → (seat_table t ≡ c.args.self.table.shared.table_id) × IsSeatAt (length l) k t) (sym c.into_vec.ensures)
    (λ k t e. let ((table, _), place) = c.requires.seats k t e in (table, place))

pub returns-clause-legal : goal.returns-clause-legal
returns-clause-legal g c = let notes = c.of-notes.ensures ∙ ap (λ d. d.notes.items) c.into_inner-object.ensures in
    subst (λ (z : List _). LeadsTo g.K.Kept.steps (opening_of c.args.self) z c.into_inner-object.result.object)
    (sym notes)
    (subst (λ z. LeadsTo g.K.Kept.steps (opening_of c.args.self) c.gather.result.value.notes.items z)
    (sym (ap (λ d. d.object) c.into_inner-object.ensures)) c.gather.ensures.legal)

pub returns-clause-own : goal.returns-clause-own
returns-clause-own g c = let notes = c.of-notes.ensures ∙ ap (λ d. d.notes.items) c.into_inner-object.ensures in
    λ k t e. ap (notes_by g.K.Kept.author k) notes
    ∙ c.gather.ensures.own k t (ap (λ l. slice_get l k) c.into_vec.ensures ∙ e)

pub returns-clause-seen : goal.returns-clause-seen
returns-clause-seen g c = let notes = c.of-notes.ensures ∙ ap (λ d. d.notes.items) c.into_inner-object.ensures in
    λ k t e. subst (λ (z : List _). StartsWith z (seen_by t)) (sym notes)
    (c.gather.ensures.seen k t (ap (λ l. slice_get l k) c.into_vec.ensures ∙ e))

pub returns-clause-others : goal.returns-clause-others
returns-clause-others g c = let notes = c.of-notes.ensures ∙ ap (λ d. d.notes.items) c.into_inner-object.ensures in
    λ k l. ap (notes_by g.K.Kept.author k) notes
    ∙ c.gather.ensures.others k (subst (λ (z : List _). length z ≤ k) (sym c.into_vec.ensures) l)
