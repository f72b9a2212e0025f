mod Adding
mod Closing
mod Growing
mod Idle
mod Nexts
mod Ordered
mod Seen
mod Widening
