pub mod Histories
pub mod Places
mod RoomKeeps
mod ServeLaws
mod SeatsKeep
mod Rows
