mod Runs
mod Marking
mod Entries
