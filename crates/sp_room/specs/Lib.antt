pub mod Ends
pub mod History
pub mod RoomRule
pub mod Seats
