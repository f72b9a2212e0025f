mod Bridge
mod Places
