-- What moved from a frame: what stays where none is of it, and nothing where nothing is left.
use Rattle.std.proofs.Common.{◌≡◌, List, [], ◌∷◌, filter, Bool, true, false, not, refl, sym, ap, ◌∙◌, ◌||◌}
use Rattle.std.specs.List.{list_any}
use Rattle.sp_cell.specs.declared.spot.Spot.{Spot}
use Rattle.sp_cell.specs.Map.{Plain}
use Rattle.sp_code.specs.Memory.{Frame}
use Rattle.sp_where.specs.StateVariables.{Known}
use Rattle.sp_where.specs.StateCalls.{is_of, but_of, moved_frames}

-- all stay where none is of the frame
none_go : (test : Spot → Bool) (ss : List Spot) → list_any test ss ≡ false → filter (λ s. not (test s)) ss ≡ ss
none_go test [] h = refl
none_go test (s ∷ ss) h = by_test (test s) refl h (λ k. none_go test ss k)
  where
    by_test : (b : Bool) → test s ≡ b → b || list_any test ss ≡ false
        → (list_any test ss ≡ false → filter (λ t. not (test t)) ss ≡ ss)
        → filter (λ t. not (test t)) (s ∷ ss) ≡ s ∷ ss
    by_test true e k go = cc
    by_test false e k go = rw e (ap (λ (ts : List Spot). s ∷ ts) (go k))

pub all_stay : (f : Frame) (ss : List Spot) → list_any (is_of f) ss ≡ false → ss ≡ but_of f ss
all_stay f ss h = sym (none_go (is_of f) ss h)

-- nothing moved
pub none_moved : (w : Known) (m : Plain) (fs : List Frame) → moved_frames w m [] fs ≡ []
none_moved w m [] = refl
none_moved w m (f ∷ fs) = none_moved w m fs

pub none_left : (w : Known) (m : Plain) (ss : List Spot) (fs : List Frame) → ss ≡ [] → moved_frames w m ss fs ≡ []
none_left w m ss fs e = ap (λ (ts : List Spot). moved_frames w m ts fs) e ∙ none_moved w m fs
