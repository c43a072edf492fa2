-- The laws of putting texts, and of the lines. What a caller asks for: `room_for` and `written` (Line).
pub mod Put
pub mod Line
