mod Found
mod Made
mod Told
