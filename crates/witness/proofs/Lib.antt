-- A list by its indices, the tables of filled pieces, words that fit, the entries of a log, what was written read back, the tables with what is kept of
-- each piece, the canonical memory of a paper and its entries, and the keeper.
mod Built
mod Counts
mod Small
mod Entries
mod Written
mod Seen
mod Canonical
mod Keeper
