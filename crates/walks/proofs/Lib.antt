-- Main: the laws, each with a one-line proof. Read it first.
-- Fair: what they ask of a sheet. Walks: tables, with no run in them. Map: the plain map. Pushes: what the queue gets. Front, Run: the
-- run's invariant, over an offer and over one turn. Keys: how many are settled, and how large keys get. Order: the settling order.
-- Marks: the unreached mark. HeapRun: the run over a heap.
-- No part of Main: Symmetry (walks back), Vetted (a table from another hand).
pub mod Fair
pub mod Walks
pub mod Map
pub mod Pushes
pub mod Front
pub mod Run
pub mod Keys
pub mod Order
pub mod Marks
pub mod HeapRun
pub mod Symmetry
pub mod Vetted
pub mod Main
