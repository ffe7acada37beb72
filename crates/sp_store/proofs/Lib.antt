mod Ends
mod Frames
mod Places
mod OneCellPieces
