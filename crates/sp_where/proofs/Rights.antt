-- What a process has still to use, it may read.
use Rattle.std.proofs.Common.{inl, inr, List, [], ◌∷◌, refl}
use Rattle.sp_tree.specs.Plain.{Program, Repeat}
use Rattle.sp_tree.specs.Sets.{IsUsed}
use Rattle.sp_tree.specs.Uses.{In_loop, In_stmt, Seen, Target, Use}
use Rattle.sp_meaning.specs.LocalWork.{Again, Break, Do, First, Frame, Item, Leave, Loc, Test}
use Rattle.sp_meaning.specs.Rights.{ItemsAreSound, Sound, frames_below}
use Rattle.sp_where.specs.Truth.{IsLeftToUse, UsesThere}

module _ (p : Program) (W R : Loc → Type 0) (reads : (l : Loc) → W l → R l) where
  used_there : (fs : List Frame) (Here : Use → Type 0) → Sound p W R fs Here → (l : Loc) → UsesThere p fs Here l → R l
  used_there fs Here so l u = go u.1
    where
      go : IsUsed p Here u.0 → R l
      go (inl t) = reads l (so.allowed t.0 (Target u.0) t.1 u.0 l (refl, u.2))
      go (inr t) = so.allowed t.0 (Seen u.0) t.1 u.0 l (refl, u.2)

  pub left_read : (fs : List Frame) (todo : List Item) → ItemsAreSound p W R fs todo → (l : Loc)
      → IsLeftToUse p fs todo l → R l
  left_read fs [] so l u = absurd u
  left_read fs (Do s ∷ todo) so l (inl u) = used_there fs (In_stmt s) so.0 l u
  left_read fs (Do s ∷ todo) so l (inr u) = left_read fs todo so.1 l u
  left_read fs (First x low high down s ∷ todo) so l (inl u) = used_there fs (In_loop x s) so.0 l u
  left_read fs (First x low high down s ∷ todo) so l (inr u) = left_read fs todo so.1 l u
  left_read fs (Again x limit down s ∷ todo) so l (inl u) = used_there fs (In_loop x s) so.0 l u
  left_read fs (Again x limit down s ∷ todo) so l (inr u) = left_read fs todo so.1 l u
  left_read fs (Test s e ∷ todo) so l (inl u) = used_there fs (In_stmt (Repeat s e)) so.0 l u
  left_read fs (Test s e ∷ todo) so l (inr u) = left_read fs todo so.1 l u
  left_read fs (Leave ∷ todo) so l u = left_read (frames_below fs) todo so l u
  left_read fs (Break f ∷ todo) so l u = left_read fs todo so l u
