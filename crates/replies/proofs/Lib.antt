-- Responses: a line answered, command by command. Assumes nothing.
pub mod Responses
