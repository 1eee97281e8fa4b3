mod Splices
mod Sealing
mod Entries
mod Runs
mod Marking
