-- `Sources`: bytes handed out one read behind another. `Answers`: what reads answer. `Rates`: the rates of `rates.bin`, some bytes at a time. `Runs`: the
-- run of standard input, and its text.
pub mod Sources
pub mod Answers
pub mod Rates
pub mod Runs
