mod Leads
mod Writes
