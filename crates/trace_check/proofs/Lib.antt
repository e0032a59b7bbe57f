mod Steps
mod Coherence
mod Judged
