mod Shared
mod Nodes
mod Loading
