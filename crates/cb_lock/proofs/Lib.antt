mod Ticking
mod Marking
mod Checking
mod Claimed
mod Entering
mod Past
