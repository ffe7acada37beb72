-- What two stores may have of one variable, and what keeps that.
use Rattle.std.proofs.Common.{inl, inr, Option, Some, None, sym}
use Rattle.sp_cell.specs.Holders.{ShareAlike, ContentsAgree}
use Rattle.sp_cell.specs.Map.{Content, Own, Shared, Output, Away, IsPiece, IsOwn, cells_of}
use Rattle.sp_verify_rules.specs.OwnChange.{AgreesOn}

share_back : (a b : Option Content) → ShareAlike a b → ShareAlike b a
share_back None b s = absurd s
share_back (Some (Own cs)) b s = absurd s
share_back (Some (Output bs)) b s = absurd s
share_back (Some Away) b s = absurd s
share_back (Some (Shared cs)) None s = absurd s
share_back (Some (Shared cs)) (Some (Own ds)) s = absurd s
share_back (Some (Shared cs)) (Some (Shared ds)) s = sym s
share_back (Some (Shared cs)) (Some (Output bs)) s = absurd s
share_back (Some (Shared cs)) (Some Away) s = absurd s

pub agree_back : (a b : Option Content) → ContentsAgree a b → ContentsAgree b a
agree_back a b (inl n) = inr (inl n)
agree_back a b (inr (inl n)) = inl n
agree_back a b (inr (inr s)) = inr (inr (share_back a b s))

-- an own piece may change
pub own_agrees : (a b : Option Content) → IsOwn a → IsOwn b → AgreesOn a b
own_agrees None b h k o g = absurd h
own_agrees (Some (Own cs)) b h k o (inl n) = absurd n
own_agrees (Some (Own cs)) b h k o (inr (inl n)) = inr (inl n)
own_agrees (Some (Own cs)) b h k o (inr (inr s)) = absurd s
own_agrees (Some (Shared cs)) b h k o g = absurd h
own_agrees (Some (Output bs)) b h k o g = absurd h
own_agrees (Some Away) b h k o g = absurd h

-- and may come to be shared
pub share_agrees : (a : Option Content) → IsPiece a → AgreesOn a (Some (Shared (cells_of a)))
share_agrees None p o g = absurd p
share_agrees (Some (Own cs)) p o (inl n) = absurd n
share_agrees (Some (Own cs)) p o (inr (inl n)) = inr (inl n)
share_agrees (Some (Own cs)) p o (inr (inr s)) = absurd s
share_agrees (Some (Shared cs)) p o g = g
share_agrees (Some (Output bs)) p o g = absurd p
share_agrees (Some Away) p o g = absurd p
