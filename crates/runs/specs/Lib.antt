-- Run: what the run answers and leaves. Write: what the writer answers and leaves. SheetCalls: any calls on sheets, and ours.
pub mod Run
pub mod Write
pub mod SheetCalls
