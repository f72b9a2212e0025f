-- What the contracts cite, in the order in which it builds up: trees over rows (Trees), red-black trees (Balance),
-- what a store of nodes is and what each call does (Nodes), lists and places in them (Places), and the states between
-- the steps (Steps); and how a store may exchange nodes on a change (Exchanges).
pub mod Balance
pub mod Nodes
pub mod Places
pub mod Steps
pub mod Trees
pub mod Exchanges
