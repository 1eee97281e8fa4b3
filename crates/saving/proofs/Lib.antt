mod Runs
mod Files
