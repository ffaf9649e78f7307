-- Definitions on worked texts: each row computes.
mod LawRows
mod BackRows
